-- `writer::write_members` meets its contract. The invariant: the entries are written but for those of the mask that is left. The measure is that mask. Assumes nothing.
use Prim.Native.Nat.{◌^◌, ◌<◌}
use Rattle.answer.proofs.Pieces.{Left}
use Rattle.writer.specs.JobWritten.{members}
use Rattle.writer.proofs.write_members.Given as goal

abbrev pub invariant-loop-left : goal.invariant-loop-left
invariant-loop-left l = record {
  small : l.left < 2 ^ 32;
  left : Left l.initial.page (members l.set) l.page (members l.left);
}

abbrev pub decreases-loop-left : goal.decreases-loop-left
decreases-loop-left l = l.left
