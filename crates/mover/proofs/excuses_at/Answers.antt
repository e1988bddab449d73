-- `mover::excuses_at` meets its contract: in form one the reader ends there, or stops. Assumes nothing.
use Rattle.sheet.proofs.Jobs.{job-accepted, job-refused}
use Rattle.mover.proofs.Front.{told-end, told-fault}
use Rattle.mover.proofs.excuses_at.Goals as goal

pub returns-in-Ok : goal.returns-in-Ok
returns-in-Ok c = let t = job-accepted _ _ _ _ c.read_job-in_one.ensures.value c.in-Ok.is in
    told-end _ t.0 t.1

pub returns-in-Err : goal.returns-in-Err
returns-in-Err c = let t = job-refused _ _ _ _ c.read_job-in_one.ensures.value c.in-Err.is in
    told-fault _ _ _ t c.place.ensures
