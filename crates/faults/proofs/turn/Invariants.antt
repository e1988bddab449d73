-- `faults::turn` meets its contract. The loop's invariant: the digits of each word passed are turned, and the other words are as they were.
-- Assumes nothing.
use mathlib.Core.Path.{◌≡◌}
use Prim.Native.Nat.{ℕ, ◌-◌, ◌^◌, ◌≤◌, ◌<◌}
use lib.ListN.{get_or}
use Rattle.faults.proofs.turn.Given as goal

abbrev pub invariant-loop-word : goal.invariant-loop-word
invariant-loop-word l = record {
  turned : (w : ℕ) → w < l.word-index → get_or l.word-items w 0 ≡ 2 ^ 64 - 1 - get_or l.initial.word-items w 0;
  kept : (w : ℕ) → l.word-index ≤ w → get_or l.word-items w 0 ≡ get_or l.initial.word-items w 0;
}
