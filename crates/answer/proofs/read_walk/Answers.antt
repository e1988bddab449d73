-- `answer::read_walk` meets its contract: `walk_is` says what follows each call. Assumes nothing.
use Rattle.std.proofs.Common.{rules}
use Rattle.steps.proofs.Steps.{stop, go_on}
use Rattle.answer.proofs.Sections.{walk_is}
use Rattle.answer.proofs.read_walk.Goals as goal

pub returns-in_err-at_walk : goal.returns-in_err-at_walk
returns-in_err-at_walk c = rw (walk_is, stop _ _ _ _ c.read_exactly.ensures c.in_err-at_walk.was) (search rules)

pub returns-in_err-count : goal.returns-in_err-count
returns-in_err-count c = rw (walk_is, go_on _ _ _ _ _ c.read_exactly.ensures c.in_ok-at_walk.was, stop _ _ _ _ c.read_walk_count.ensures c.in_err-count.was) (search rules)

pub returns-in_err-last : goal.returns-in_err-last
returns-in_err-last c = rw (walk_is, go_on _ _ _ _ _ c.read_exactly.ensures c.in_ok-at_walk.was, go_on _ _ _ _ _ c.read_walk_count.ensures c.in_ok-count.was, stop _ _ _ _ c.read_entries.ensures c.in_err-last.was) (search rules)

pub returns-in_err-next : goal.returns-in_err-next
returns-in_err-next c = rw (walk_is, go_on _ _ _ _ _ c.read_exactly.ensures c.in_ok-at_walk.was, go_on _ _ _ _ _ c.read_walk_count.ensures c.in_ok-count.was, go_on _ _ _ _ _ c.read_entries.ensures c.in_ok-last.was, stop _ _ _ _ c.read_end.ensures c.in_err-next.was) (search rules)

pub returns : goal.returns
returns c = rw (walk_is, go_on _ _ _ _ _ c.read_exactly.ensures c.in_ok-at_walk.was, go_on _ _ _ _ _ c.read_walk_count.ensures c.in_ok-count.was, go_on _ _ _ _ _ c.read_entries.ensures c.in_ok-last.was, go_on _ _ _ _ _ c.read_end.ensures c.in_ok-next.was)
