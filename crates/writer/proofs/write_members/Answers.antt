-- `writer::write_members` meets its contract, by its invariant. Assumes nothing.
use native.Mathlib.Omega.{arith}
use mathlib.Core.List.{[], ◌∷◌}
use lib.Count.{count_trailing_zeros}
use Rattle.wires.proofs.Lowest.{rest_below}
use Rattle.answer.proofs.Pieces.{left_room, left_turn, left_done}
use Rattle.writer.proofs.Stores.{set-lowest, set-none}
use Rattle.writer.proofs.write_members.Goals as goal

pub write_byte-requires : goal.write_byte-requires
write_byte-requires c = left_room c.loop-left.invariant.left (count_trailing_zeros 32 c.loop-left.left ∷ []) _ (set-lowest c.loop-left.left (omega arith) c.loop-left.invariant.small) c.requires

pub loop-left-preserved : goal.loop-left-preserved
loop-left-preserved c = record {
  small = omega (arith, rest_below c.loop-left.left (omega arith), c.loop-left.invariant.small);
  left = left_turn c.loop-left.invariant.left (count_trailing_zeros 32 c.loop-left.left ∷ []) _ (set-lowest c.loop-left.left (omega arith) c.loop-left.invariant.small) c.write_byte.ensures;
}

pub returns : goal.returns
returns c = left_done c.loop-left.invariant.left (set-none c.loop-left.left (omega arith))
