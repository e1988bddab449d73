-- `mover::to_two` meets its contract: the sheet is refused, or written with no excuses. Assumes nothing.
use Rattle.sheet.proofs.Jobs.{job-accepted, job-refused}
use Rattle.sheet.proofs.Length.{accepted-short}
use Rattle.mover.proofs.Ends.{two-refused, two-taken}
use Rattle.mover.proofs.to_two.Goals as goal

pub add_none-requires : goal.add_none-requires
add_none-requires c = let t = job-accepted _ _ _ _ c.read_job.ensures.value c.in-Ok.is in
    accepted-short _ _ t.0 t.1

pub returns-in-Ok : goal.returns-in-Ok
returns-in-Ok c = let t = job-accepted _ _ _ _ c.read_job.ensures.value c.in-Ok.is in
    two-taken _ _ t.0 _ t.1 c.add_none.ensures

pub returns-in-Err : goal.returns-in-Err
returns-in-Err c = two-refused _ _ _ (job-refused _ _ _ _ c.read_job.ensures.value c.in-Err.is) c.refused_job.ensures
