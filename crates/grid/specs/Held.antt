-- A board as the struct of `src/lib.rt` holds it, whose arrays are lent.
-- Assumes nothing: these are definitions.
use Rattle.grid.specs.Grid.{Grid, grid}
use Rattle.grid.specs.declared.Grid as lent

abbrev pub held : lent.Grid → Grid
held g = grid g.shape g.row_a.now g.row_b.now g.faults.now
