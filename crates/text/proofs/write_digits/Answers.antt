-- `text::write_digits` meets its contract, by its invariant. Assumes nothing.
use Rattle.text.proofs.Tables.{digit_room, digit_written, digits_all}
use Rattle.text.proofs.write_digits.Goals as goal

pub write_byte-requires : goal.write_byte-requires
write_byte-requires c = digit_room _ _ c.loop-row.invariant c.loop-row-test.true c.requires.room

pub loop-row-preserved : goal.loop-row-preserved
loop-row-preserved c = digit_written _ _ c.loop-row.invariant c.loop-row-test.true c.write_byte.ensures

pub returns : goal.returns
returns c = digits_all _ _ c.loop-row.invariant c.loop-row-test.false
