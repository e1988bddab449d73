-- `board::check::check_answer` meets its contract: what the reader of answers told is judged where it stands. Assumes nothing.
use Rattle.std.proofs.Common.{◌∙◌, ap, Ok}
use Rattle.board.proofs.Judging.{tables-told, walk-told, refused-told}
use Rattle.board.proofs.check.check_answer.Goals as goal

pub invariant_of-judge : goal.invariant_of-judge
invariant_of-judge c = record {
  tables_in = (tables-told c.args.h c.args.masks.now _ c.requires _ _ c.row_count-rows_a.ensures c.row_count-rows_b.ensures _ c.read_answer.ensures (c.in-Ok-Tables.is ∙ ap Ok c.in-Ok-Tables.field-0-is)).0;
}

pub invariant_of-judge-in-Ok-Walk : goal.invariant_of-judge-in-Ok-Walk
invariant_of-judge-in-Ok-Walk c = record {
  walk_in = (walk-told c.args.h c.args.masks.now _ c.requires _ _ c.row_count-rows_a.ensures c.row_count-rows_b.ensures _ c.read_answer.ensures _ (c.in-Ok-Walk.is ∙ ap Ok c.in-Ok-Walk.field-0-is)).0;
}

pub returns-in-Ok-Tables : goal.returns-in-Ok-Tables
returns-in-Ok-Tables c = c.judge.ensures
    ∙ (tables-told c.args.h c.args.masks.now _ c.requires _ _ c.row_count-rows_a.ensures c.row_count-rows_b.ensures _ c.read_answer.ensures (c.in-Ok-Tables.is ∙ ap Ok c.in-Ok-Tables.field-0-is)).1

pub returns-in-Ok-Walk : goal.returns-in-Ok-Walk
returns-in-Ok-Walk c = c.judge-in-Ok-Walk.ensures
    ∙ (walk-told c.args.h c.args.masks.now _ c.requires _ _ c.row_count-rows_a.ensures c.row_count-rows_b.ensures _ c.read_answer.ensures _ (c.in-Ok-Walk.is ∙ ap Ok c.in-Ok-Walk.field-0-is)).1

pub returns-in-Err : goal.returns-in-Err
returns-in-Err c = c.refused_answer.ensures
    ∙ refused-told c.args.h c.args.masks.now _ c.requires _ _ c.row_count-rows_a.ensures c.row_count-rows_b.ensures _ c.read_answer.ensures _ c.in-Err.is
