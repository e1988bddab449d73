-- `widener::write_wide` meets its contract: two widened tables and a count of 0 make the sheet. Assumes nothing.
use Rattle.std.proofs.Common.{refl, ◌∙◌, arith}
use Rattle.widener.proofs.Writing.{first-asks, second-asks, third-room, wide-wrote}
use Rattle.widener.proofs.write_wide.Goals as goal

pub widen_table-requires : goal.widen_table-requires
widen_table-requires c = first-asks _ _ _ c.args.out.now c.requires _ refl refl

pub widen_table-requires-2 : goal.widen_table-requires-2
widen_table-requires-2 c = second-asks _ _ _ c.args.out.now c.requires _ _ _ c.widen_table.ensures.long c.widen_table.ensures.at c.row_count-rows_a.ensures _ refl refl

pub write_two-requires : goal.write_two-requires
write_two-requires c = third-room _ _ _ c.args.out.now c.requires _ _ _ c.widen_table.ensures.long c.widen_table.ensures.at c.row_count-rows_a.ensures _ _ c.widen_table-2.ensures.long c.widen_table-2.ensures.at

pub returns : goal.returns
returns c = wide-wrote _ _ _ c.args.out.now c.requires _ _ _ c.widen_table.ensures.long c.widen_table.ensures.at c.row_count-rows_a.ensures
    _ _ c.widen_table-2.ensures.long c.widen_table-2.ensures.at _ _ c.write_two.ensures.stored.value
    c.widen_table.ensures.rows c.widen_table-2.ensures.rows
    (grind (arith, c.write_two.ensures.same, c.widen_table-2.ensures.same, c.widen_table.ensures.same) ∙ c.write_two.ensures.stored.out_after)
