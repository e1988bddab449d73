-- `wires::row_placed` meets its contract. The loop's invariant: the combination so far lies below the lowest wire that is left, and the digits of the
-- row that are left, placed at the wires that are left, stand above it. The measure is the mask that is left. Assumes nothing.
use Rattle.std.proofs.Common.{◌≡◌, ℕ, ◌+◌, ◌^◌, ◌<◌}
use lib.Count.{count_trailing_zeros}
use Rattle.wires.specs.Wires.{placed}
use Rattle.wires.proofs.row_placed.Given as goal

pub record Inv (seen row left digits a : ℕ) : Type 0 where
  pub small : left < 2 ^ 32
  pub below : a < 2 ^ count_trailing_zeros 32 left
  pub whole : placed 32 seen row ≡ a + placed 32 left digits

abbrev pub invariant-loop-left : goal.invariant-loop-left
invariant-loop-left l = Inv l.seen l.row l.left l.rest l.a

abbrev pub decreases-loop-left : goal.decreases-loop-left
decreases-loop-left l = l.left
