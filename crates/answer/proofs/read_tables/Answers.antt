-- `answer::read_tables` meets its contract: `tables-is` says what follows each call. Assumes nothing.
use Rattle.std.proofs.Common.{rules}
use Rattle.steps.proofs.Steps.{stop, go_on}
use Rattle.answer.proofs.Sections.{tables-is}
use Rattle.answer.proofs.read_tables.Goals as goal

pub returns-in_err-at_b : goal.returns-in_err-at_b
returns-in_err-at_b c = rw (tables-is, stop _ _ _ _ c.read_bits.ensures c.in_err-at_b.was) (search rules)

pub returns-in_err-from_b : goal.returns-in_err-from_b
returns-in_err-from_b c = rw (tables-is, go_on _ _ _ _ _ c.read_bits.ensures c.in_ok-at_b.was, stop _ _ _ _ c.read_exactly.ensures c.in_err-from_b.was) (search rules)

pub returns-in_err-at_walk : goal.returns-in_err-at_walk
returns-in_err-at_walk c = rw (tables-is, go_on _ _ _ _ _ c.read_bits.ensures c.in_ok-at_b.was, go_on _ _ _ _ _ c.read_exactly.ensures c.in_ok-from_b.was, stop _ _ _ _ c.read_bits-2.ensures c.in_err-at_walk.was) (search rules)

pub returns-in_err-last : goal.returns-in_err-last
returns-in_err-last c = rw (tables-is, go_on _ _ _ _ _ c.read_bits.ensures c.in_ok-at_b.was, go_on _ _ _ _ _ c.read_exactly.ensures c.in_ok-from_b.was, go_on _ _ _ _ _ c.read_bits-2.ensures c.in_ok-at_walk.was, stop _ _ _ _ c.read_exactly-2.ensures c.in_err-last.was) (search rules)

pub returns : goal.returns
returns c = rw (tables-is, go_on _ _ _ _ _ c.read_bits.ensures c.in_ok-at_b.was, go_on _ _ _ _ _ c.read_exactly.ensures c.in_ok-from_b.was, go_on _ _ _ _ _ c.read_bits-2.ensures c.in_ok-at_walk.was, go_on _ _ _ _ _ c.read_exactly-2.ensures c.in_ok-last.was) c.read_end.ensures
