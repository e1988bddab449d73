-- `text::print_tables` meets its contract: five pieces make the text of the tables. Assumes nothing.
use Rattle.std.proofs.Common.{arith, refl}
use Rattle.text.proofs.Tables.{first-asks, second-asks, middle-room, last-room, tables-printed}
use Rattle.text.proofs.print_tables.Goals as goal

pub write_digits-requires : goal.write_digits-requires
write_digits-requires c = first-asks _ _ refl c.requires _ _ c.word_at-rows_a.ensures c.word_at-rows_b.ensures c.write.ensures

pub write-requires-2 : goal.write-requires-2
write-requires-2 c = middle-room _ _ refl c.requires _ _ c.word_at-rows_a.ensures c.word_at-rows_b.ensures c.write.ensures c.write_digits.ensures

pub write_digits-requires-2 : goal.write_digits-requires-2
write_digits-requires-2 c = second-asks _ _ refl c.requires _ _ c.word_at-rows_a.ensures c.word_at-rows_b.ensures c.write.ensures c.write_digits.ensures c.write-2.ensures

pub write-requires-3 : goal.write-requires-3
write-requires-3 c = last-room _ _ refl c.requires _ _ c.word_at-rows_a.ensures c.word_at-rows_b.ensures c.write.ensures c.write_digits.ensures c.write-2.ensures c.write_digits-2.ensures

pub returns : goal.returns
returns c = tables-printed _ _ refl c.requires _ _ c.word_at-rows_a.ensures c.word_at-rows_b.ensures c.write.ensures c.write_digits.ensures c.write-2.ensures c.write_digits-2.ensures c.write-3.ensures
    (grind (arith, c.write.ensures.same, c.write_digits.ensures.same, c.write-2.ensures.same, c.write_digits-2.ensures.same, c.write-3.ensures.same))
