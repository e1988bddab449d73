-- `grid::unpack` meets its contract. The loop's invariant: each combination passed has its four digits of the table. Assumes nothing.
use mathlib.Core.Path.{◌≡◌}
use Prim.Native.Nat.{ℕ, ◌*◌, ◌/◌, ◌%◌, ◌^◌, ◌<◌}
use lib.ListN.{get_or}
use Rattle.grid.proofs.unpack.Given as goal

abbrev pub invariant-loop-a : goal.invariant-loop-a
invariant-loop-a l = (k : ℕ) → k < l.a → get_or l.faults k 0 ≡ get_or l.words (k / 16) 0 / 2 ^ (4 * (k % 16)) % 16
