-- `wires::row_shown` meets its contract. The loop's invariant: the row so far has `at` digits, and the rows of the wires that are left stand above it.
-- The measure is the mask that is left. Assumes nothing.
use Rattle.std.proofs.Common.{◌≡◌, ℕ, ◌+◌, ◌*◌, ◌^◌, ◌<◌}
use lib.Count.{ones}
use Rattle.wires.specs.Wires.{shown}
use Rattle.wires.proofs.row_shown.Given as goal

pub record Inv (seen a left row at : ℕ) : Type 0 where
  pub small : left < 2 ^ 32
  pub digits : row < 2 ^ at
  pub count : at + ones left ≡ ones seen
  pub rows : shown 32 seen a ≡ row + shown 32 left a * 2 ^ at

abbrev pub invariant-loop-left : goal.invariant-loop-left
invariant-loop-left l = Inv l.seen l.a l.left l.row l.at

abbrev pub decreases-loop-left : goal.decreases-loop-left
decreases-loop-left l = l.left
