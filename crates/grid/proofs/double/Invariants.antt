-- `grid::double` meets its contract. The loop's invariant: the first `size` entries are as they were, and the next `i` are these with `step` added.
-- Assumes nothing.
use mathlib.Core.Path.{◌≡◌}
use Prim.Native.Nat.{ℕ, ◌+◌, ◌<◌}
use lib.ListN.{get_or}
use Rattle.grid.proofs.double.Given as goal

abbrev pub invariant-loop-i : goal.invariant-loop-i
invariant-loop-i l = record {
  low : (k : ℕ) → k < l.size → get_or l.rows k 0 ≡ get_or l.initial.rows k 0;
  high : (k : ℕ) → k < l.i → get_or l.rows (l.size + k) 0 ≡ get_or l.initial.rows k 0 + l.step;
}
