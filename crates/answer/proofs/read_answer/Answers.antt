-- `answer::read_answer` meets its contract: `Sections` has what each call comes to. Assumes nothing.
use Rattle.std.proofs.Common.{rules}
use Rattle.steps.proofs.Steps.{found, faulty}
use Rattle.answer.proofs.Sections.{no_kind, no_walk, walk-found, no-tables, tables-found}
use Rattle.answer.proofs.read_answer.Goals as goal

pub returns-in_err-n : goal.returns-in_err-n
returns-in_err-n c = rw (no_kind _ _ _ _ _ (faulty _ _ _ c.read_kind.ensures c.in_err-n.was)) (search rules)

pub returns-in_err-count : goal.returns-in_err-count
returns-in_err-count c =
    let kind = found _ _ _ _ c.read_kind.ensures c.in_ok-n.was in
    rw (no_walk _ _ _ _ _ _ kind c.if-n-eq0.true _ (faulty _ _ _ c.read_walk.ensures c.in_err-count.was)) (search rules)

pub returns-in_err-read_tables : goal.returns-in_err-read_tables
returns-in_err-read_tables c =
    let kind = found _ _ _ _ c.read_kind.ensures c.in_ok-n.was in
    rw (no-tables _ _ _ _ _ _ kind c.if-n-eq0.false _ (faulty _ _ _ c.read_tables.ensures c.in_err-read_tables.was)) (search rules)

pub returns-in_ok-count : goal.returns-in_ok-count
returns-in_ok-count c =
    let kind = found _ _ _ _ c.read_kind.ensures c.in_ok-n.was in
    walk-found _ _ _ _ _ _ kind c.if-n-eq0.true _ _ (found _ _ _ _ c.read_walk.ensures c.in_ok-count.was)

pub returns-in_ok-read_tables : goal.returns-in_ok-read_tables
returns-in_ok-read_tables c =
    let kind = found _ _ _ _ c.read_kind.ensures c.in_ok-n.was in
    tables-found _ _ _ _ _ _ kind c.if-n-eq0.false _ _ (found _ _ _ _ c.read_tables.ensures c.in_ok-read_tables.was)
