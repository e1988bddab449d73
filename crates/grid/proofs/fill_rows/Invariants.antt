-- `grid::fill_rows` meets its contract. The loop's invariant: each combination of the lowest p wires has the row that it shows, and `size` and `weight`
-- are the combinations and the rows of these wires. Assumes nothing.
use mathlib.Core.Path.{◌≡◌}
use mathlib.Core.List.{List}
use Prim.Native.Nat.{ℕ, ◌^◌, ◌<◌}
use lib.ListN.{get_or}
use Rattle.wires.specs.Wires.{shown}
use Rattle.grid.proofs.Doubling.{weight as weight-at}
use Rattle.grid.proofs.fill_rows.Given as goal

pub record Inv (seen p size weight : ℕ) (t : List ℕ) : Type 0 where
  pub sizes : size ≡ 2 ^ p
  pub weighs : weight ≡ weight-at p seen
  pub rows : (a : ℕ) → a < 2 ^ p → get_or t a 0 ≡ shown p seen a

abbrev pub invariant-loop-p : goal.invariant-loop-p
invariant-loop-p l = Inv l.seen l.p l.size l.weight l.rows
