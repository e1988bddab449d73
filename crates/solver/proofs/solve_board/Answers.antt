-- `solver::solve_board` meets its contract: the arrays are filled with the board of the job, and solved. Assumes nothing.
use mathlib.Core.Path.{refl, sym}
use lib.ListN.{replicate}
use lib.Seq.{length-take-le}
use Rattle.solver.proofs.Boards.{unpack-room, asks-a, asks-b, strikes, sound, board-solved}
use Rattle.solver.proofs.solve_board.Goals as goal

pub strike-requires : goal.strike-requires
strike-requires c = strikes c.requires.sized _ c.fill_faults.ensures.wires

pub slice_bounds-faults-end : goal.slice_bounds-faults-end
slice_bounds-faults-end c = unpack-room c.requires.sized

pub slice_bounds-unpack-end : goal.slice_bounds-unpack-end
slice_bounds-unpack-end c = sym (length-take-le _ _ (unpack-room c.requires.sized))

pub fill_rows-requires : goal.fill_rows-requires
fill_rows-requires c = asks-a c.requires.sized (replicate 4096 0) refl

pub fill_rows-requires-2 : goal.fill_rows-requires-2
fill_rows-requires-2 c = asks-b c.requires.sized (replicate 4096 0) refl

pub invariant_of-grid : goal.invariant_of-grid
invariant_of-grid c = record {
  sound = sound c.requires.sized (replicate 4096 0) refl _ _ _ _ _ _ _ c.row_count.ensures c.row_count-2.ensures
      c.fill_faults.ensures c.strike.ensures c.unpack.ensures c.fill_rows.ensures c.fill_rows-2.ensures;
}

pub returns : goal.returns
returns c = board-solved c.requires.sized (replicate 4096 0) refl _ _ _ _ _ _ _ c.row_count.ensures c.row_count-2.ensures
    c.fill_faults.ensures c.strike.ensures c.unpack.ensures c.fill_rows.ensures c.fill_rows-2.ensures
    c.solve_grid.ensures
