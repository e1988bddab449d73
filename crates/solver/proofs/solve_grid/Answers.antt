-- `solver::solve_grid` meets its contract: what the search found is written as a sheet. Assumes nothing.
use Rattle.std.proofs.Common.{arith, refl}
use Rattle.solver.proofs.Grids.{searches, tables-room, tables-solved, walk-room, walk-solved}
use Rattle.solver.proofs.solve_grid.Goals as goal

pub search-requires : goal.search-requires
search-requires c = searches c.args.grid.now.sound

pub write_tables-requires-clause-room : goal.write_tables-requires-clause-room
write_tables-requires-clause-room c = tables-room c.args.grid.now.sound _ _ c.in-None.ensures.ends (record { bytes = c.args.answer; at = 0 }) refl c.requires

pub returns-in-None : goal.returns-in-None
returns-in-None c = tables-solved c.args.grid.now.sound _ _ c.in-None.ensures.ends _ refl c.requires c.write_tables.ensures (grind (arith, c.write_tables.ensures.same)) c.succeeded.ensures

pub write_walk-requires-clause-room : goal.write_walk-requires-clause-room
write_walk-requires-clause-room c = walk-room c.args.grid.now.sound _ _ c.in-Some.ensures.ends (record { bytes = c.args.answer; at = 0 }) refl c.requires (omega arith)

pub returns-in-Some : goal.returns-in-Some
returns-in-Some c = walk-solved c.args.grid.now.sound _ _ c.in-Some.ensures.ends _ refl c.requires (omega arith) c.write_walk.ensures (grind (arith, c.write_walk.ensures.same)) c.succeeded-in-Some.ensures
