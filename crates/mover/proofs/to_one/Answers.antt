-- `mover::to_one` meets its contract: the sheet is refused, has excuses, or is written without its last section. Assumes nothing.
use Rattle.std.proofs.Common.{ap, ◌∙◌, arith}
use Rattle.steps.specs.Outcome.{refusal}
use Rattle.sheet.specs.declared.JobHead.{JobHead}
use Rattle.sheet.proofs.Jobs.{job-accepted, job-refused}
use Rattle.sheet.proofs.Forms.{seven-bytes}
use Rattle.mover.proofs.Ends.{one-refused, one-lost, one-taken}
use Rattle.mover.proofs.to_one.Goals as goal

pub drop_none-requires : goal.drop_none-requires
drop_none-requires c =
    let t = job-accepted _ _ _ _ c.read_job.ensures.value c.in-Ok.is in
    seven-bytes _ t.0 t.1

pub returns-in-Ok : goal.returns-in-Ok
returns-in-Ok c =
    let t = job-accepted _ _ _ _ c.read_job.ensures.value c.in-Ok.is in
    one-taken _ _ t.0 _ t.1 (let many = ap (λ (h : JobHead). h.excuses) t.2 in omega arith) c.drop_none.ensures

pub returns-in-Ok-2 : goal.returns-in-Ok-2
returns-in-Ok-2 c =
    let t = job-accepted _ _ _ _ c.read_job.ensures.value c.in-Ok.is in
    one-lost _ _ t.0 t.1 (λ z. let many = ap (λ (h : JobHead). h.excuses) t.2 in omega arith) (c.refused.ensures ∙ ap (refusal 16 1) c.excuses_at.ensures)

pub returns-in-Err : goal.returns-in-Err
returns-in-Err c = one-refused _ _ _ (job-refused _ _ _ _ c.read_job.ensures.value c.in-Err.is) c.refused_job.ensures
