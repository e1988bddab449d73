-- `widener::widen` meets its contract: P is refused, or taken and its rules held for what follows. Assumes nothing.
use mathlib.Core.Path.{refl}
use lib.ListN.{replicate}
use Rattle.sheet.proofs.Jobs.{job-refused}
use Rattle.board.proofs.Accepting.{taken}
use Rattle.widener.proofs.Ends.{taken_as, refused-first, taken-first}
use Rattle.widener.proofs.widen.Goals as goal

pub invariant_of-job : goal.invariant_of-job
invariant_of-job c = let t = taken _ _ (replicate 320 0) refl _ _ _ c.read_job.ensures.value c.in-Ok.is c.read_job.ensures.masks_after in
    record { taken = ∣ (t.job, taken_as t) ∣₁ }

pub returns-in-Ok : goal.returns-in-Ok
returns-in-Ok c = let t = taken _ _ (replicate 320 0) refl _ _ _ c.read_job.ensures.value c.in-Ok.is c.read_job.ensures.masks_after in
    taken-first _ _ _ _ _ t.job t.is (c.widen_from.ensures t.job (taken_as t))

pub returns-in-Err : goal.returns-in-Err
returns-in-Err c = refused-first _ _ _ _ _ _ (job-refused _ _ _ _ c.read_job.ensures.value c.in-Err.is) c.refused_job.ensures
