-- `answer::page::store` meets its contract. The invariant: the run at the end is the buffer as it stands with the bytes that are left stored from here on. Assumes nothing.
use Prim.Native.Nat.{◌+◌}
use mathlib.Core.Path.{◌≡◌}
use lib.ListN.{length, drop}
use lib.Seq.{sets}
use Rattle.answer.proofs.page.store.Given as goal

abbrev pub invariant-loop-i : goal.invariant-loop-i
invariant-loop-i l = (length l.bytes ≡ length l.initial.bytes) × (sets l.initial.bytes l.at l.text ≡ sets l.bytes (l.at + l.i) (drop l.i l.text))
