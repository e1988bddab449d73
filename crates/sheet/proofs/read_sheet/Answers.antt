-- `sheet::read_sheet` meets its contract: the sheet was accepted or refused, and the outcome says so. Assumes nothing.
use Rattle.std.proofs.Common.{◌∙◌}
use Rattle.sheet.proofs.Jobs.{read-accepted, read-refused}
use Rattle.sheet.proofs.read_sheet.Goals as goal

pub returns-in-Ok : goal.returns-in-Ok
returns-in-Ok c = c.succeeded.ensures ∙ read-accepted _ _ _ _ c.read_job.ensures.value c.in-Ok.is

pub returns-in-Err : goal.returns-in-Err
returns-in-Err c = c.refused_job.ensures ∙ read-refused _ _ _ _ c.read_job.ensures.value c.in-Err.is
