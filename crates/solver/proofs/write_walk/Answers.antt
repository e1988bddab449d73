-- `solver::write_walk` meets its contract: four pieces make the sheet of a walk. Assumes nothing.
use Rattle.answer.proofs.Pieces.{both}
use Rattle.solver.proofs.Writing.{counts, walk-room}
use Rattle.solver.proofs.write_walk.Goals as goal

pub write_two-requires : goal.write_two-requires
write_two-requires c = (counts _ {p = c.args.page.now} c.requires.room).first

pub write_two-requires-2 : goal.write_two-requires-2
write_two-requires-2 c = (counts _ c.requires.room).second c.write_two.ensures

pub write_two-requires-3 : goal.write_two-requires-3
write_two-requires-3 c = (counts _ c.requires.room).third c.write_two.ensures c.write_two-2.ensures

pub write-requires : goal.write-requires
write-requires c = walk-room _ c.requires.room (both (both c.write_two.ensures c.write_two-2.ensures) c.write_two-3.ensures)

pub returns : goal.returns
returns c = both (both (both c.write_two.ensures c.write_two-2.ensures) c.write_two-3.ensures) c.write.ensures
