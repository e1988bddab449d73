-- `board::check::check` meets its contract: a job that is accepted is the job that its answer is judged by. Assumes nothing.
use mathlib.Core.Path.{refl, ◌∙◌}
use lib.ListN.{replicate}
use Rattle.sheet.proofs.Jobs.{job-refused}
use Rattle.board.proofs.Accepting.{taken, taken-checked, refused-checked}
use Rattle.board.proofs.check.check.Goals as goal

pub check_answer-requires : goal.check_answer-requires
check_answer-requires c = (taken _ _ (replicate 320 0) refl _ _ _ c.read_job.ensures.value c.in-Ok.is c.read_job.ensures.masks_after).sized

pub returns-in-Ok : goal.returns-in-Ok
returns-in-Ok c = c.check_answer.ensures
    ∙ taken-checked _ _ _ _ (taken _ _ (replicate 320 0) refl _ _ _ c.read_job.ensures.value c.in-Ok.is c.read_job.ensures.masks_after) _

pub returns-in-Err : goal.returns-in-Err
returns-in-Err c = c.refused_job.ensures ∙ refused-checked _ _ _ (job-refused _ _ _ _ c.read_job.ensures.value c.in-Err.is) _
