-- `solver::solve` meets its contract: a job is refused, or its board is solved where there is room. Assumes nothing.
use mathlib.Core.Path.{refl, sym, ap, ◌∙◌}
use native.Mathlib.Omega.{arith}
use lib.ListN.{length, replicate}
use Rattle.sheet.proofs.Jobs.{job-refused}
use Rattle.board.proofs.Accepting.{stored-length, taken}
use Rattle.solver.specs.Solved.{refused}
use Rattle.solver.proofs.Boards.{taken-no-room, taken-solved}
use Rattle.solver.proofs.solve.Goals as goal

pub returns-in-Ok : goal.returns-in-Ok
returns-in-Ok c = let t = taken _ _ (replicate 320 0) refl _ _ _ c.read_job.ensures.value c.in-Ok.is c.read_job.ensures.masks_after in
    taken-no-room t (omega arith) c.refused.ensures

pub slice_bounds-solve_board-end : goal.slice_bounds-solve_board-end
slice_bounds-solve_board-end c = sym (ap length c.read_job.ensures.masks_after ∙ stored-length _ _ (replicate 320 0) refl)

pub solve_board-requires : goal.solve_board-requires
solve_board-requires c = let t = taken _ _ (replicate 320 0) refl _ _ _ c.read_job.ensures.value c.in-Ok.is c.read_job.ensures.masks_after in
    record {
      sized = t.sized;
      longest_in_bounds = omega arith;
    }

pub returns-in-Ok-2 : goal.returns-in-Ok-2
returns-in-Ok-2 c = let t = taken _ _ (replicate 320 0) refl _ _ _ c.read_job.ensures.value c.in-Ok.is c.read_job.ensures.masks_after in
    taken-solved t (omega arith) c.solve_board.ensures

pub returns-in-Err : goal.returns-in-Err
returns-in-Err c = refused _ (job-refused _ _ _ _ c.read_job.ensures.value c.in-Err.is) c.refused_job.ensures refl
