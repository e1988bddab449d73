-- `writer::write_job` meets its contract: the sheet where nothing is amiss. Assumes nothing.
use Rattle.std.proofs.Common.{arith}
use mathlib.Core.Path.{sym}
use Rattle.writer.proofs.Judging.{judge-fine, stored-exit}
use Rattle.writer.proofs.write_job.Goals as goal

pub write_sheet-requires : goal.write_sheet-requires
write_sheet-requires c = let fine = judge-fine _ _ (sym c.in-Ok.ensures) in
    record {
      limits = (fine.0, fine.1);
      room = omega (arith, fine.2);
    }

pub returns-in-Ok-clause-sheet_after : goal.returns-in-Ok-clause-sheet_after
returns-in-Ok-clause-sheet_after c = grind (arith, stored-exit _ _ (sym c.in-Ok.ensures) _ c.write_sheet.ensures.stored.out_after, c.write_sheet.ensures.same)
