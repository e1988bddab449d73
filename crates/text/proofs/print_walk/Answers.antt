-- `text::print_walk` meets its contract, by its invariant. Assumes nothing.
use Rattle.std.proofs.Common.{arith, refl}
use Rattle.answer.proofs.Pieces.{left_start, left_room, left_turn}
use Rattle.text.specs.Text.{line_of}
use Rattle.text.proofs.Lines.{left-more, lines-room, lines-printed}
use Rattle.text.proofs.print_walk.Goals as goal

pub loop-i-init : goal.loop-i-init
loop-i-init c = left_start _

pub write_line-requires : goal.write_line-requires
write_line-requires c = left_room c.loop-i.invariant (line_of (record { says = c.word_at-claim.result; by = c.word_at-combination.result })) _
    (left-more _ _ _ c.loop-i-test.true _ _ c.word_at-claim.ensures c.word_at-combination.ensures)
    (lines-room _ _ _ refl c.requires c.word_at-i-end.ensures c.write.ensures)

pub loop-i-preserved : goal.loop-i-preserved
loop-i-preserved c = left_turn c.loop-i.invariant (line_of (record { says = c.word_at-claim.result; by = c.word_at-combination.result })) _
    (left-more _ _ _ c.loop-i-test.true _ _ c.word_at-claim.ensures c.word_at-combination.ensures)
    c.write_line.ensures

pub returns : goal.returns
returns c = lines-printed _ _ _ refl c.requires c.word_at-i-end.ensures c.write.ensures _ c.loop-i.invariant c.loop-i-test.false (grind (arith, c.loop-i.invariant.wrote.same, c.write.ensures.same))
