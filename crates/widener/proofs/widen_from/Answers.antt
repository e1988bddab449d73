-- `widener::widen_from` meets its contract: Q is refused, or taken and its rules held for what follows. Assumes nothing.
use mathlib.Core.Path.{refl}
use lib.ListN.{replicate}
use Rattle.board.proofs.Accepting.{taken}
use Rattle.widener.proofs.Ends.{taken_as, taken-second}
use Rattle.widener.proofs.widen_from.Goals as goal

pub invariant_of-job : goal.invariant_of-job
invariant_of-job c = let t = taken _ _ (replicate 320 0) refl _ _ _ c.read_job.ensures.value c.in-Ok.is c.read_job.ensures.masks_after in
    record { taken = ∣ (t.job, taken_as t) ∣₁ }

pub returns-in-Ok : goal.returns-in-Ok
returns-in-Ok c = let t = taken _ _ (replicate 320 0) refl _ _ _ c.read_job.ensures.value c.in-Ok.is c.read_job.ensures.masks_after in
    λ P p. taken-second P _ _ _ _ t.job t.is (c.widen_both.ensures P t.job p (taken_as t))
