-- `spread::write_back` meets its contract, by its invariant. Assumes nothing.
use Rattle.spread.proofs.Back.{back_start, back_done, back-room, back-turn}
use Rattle.spread.proofs.write_back.Goals as goal

pub loop-c-init : goal.loop-c-init
loop-c-init c = back_start c.requires

pub write_entry-requires : goal.write_entry-requires
write_entry-requires c = back-room c.requires c.loop-c.invariant c.loop-c-test.true

pub loop-c-preserved : goal.loop-c-preserved
loop-c-preserved c = back-turn c.requires c.loop-c.invariant c.loop-c-test.true (rw c.opposite.ensures at c.write_entry.ensures)

pub returns : goal.returns
returns c = back_done c.requires c.loop-c.invariant c.loop-c-test.false
