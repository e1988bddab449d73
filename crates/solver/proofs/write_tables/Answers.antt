-- `solver::write_tables` meets its contract: three pieces make the sheet of two tables. Assumes nothing.
use mathlib.Core.Path.{sym}
use Rattle.solver.proofs.Writing.{front_length, first-asks, second-asks, third-room, state-wrote}
use Rattle.solver.proofs.write_tables.Goals as goal

pub slice_bounds-write_table-end : goal.slice_bounds-write_table-end
slice_bounds-write_table-end c = sym (front_length _ _ c.requires.within.0)

pub write_table-requires : goal.write_table-requires
write_table-requires c = first-asks _ _ c.requires.within.0 c.requires.within.1 c.args.page.now c.requires.room

pub write_table-requires-2 : goal.write_table-requires-2
write_table-requires-2 c = second-asks _ _ c.requires.within.0 c.requires.within.1 _ c.requires.room c.write_table.ensures

pub write_two-requires : goal.write_two-requires
write_two-requires c = third-room _ _ c.requires.within.0 c.requires.within.1 _ c.requires.room c.write_table.ensures c.write_table-2.ensures

pub returns : goal.returns
returns c = state-wrote _ _ c.requires.within.0 c.requires.within.1 _ c.requires.room c.write_table.ensures c.write_table-2.ensures c.write_two.ensures
