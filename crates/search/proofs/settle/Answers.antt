-- `search::settle` meets its contract: where both spreads fail, the two ways back are a walk.
-- Assumes nothing.
use Rattle.search.proofs.Turns.{second-settles}
use Rattle.scan.proofs.Arrays.{arrays-trans}
use Rattle.search.proofs.settle.Goals as goal

pub returns-clause-settled : goal.returns-clause-settled
returns-clause-settled c = second-settles c.args.grid.now.sound c.requires c.in_ok-middle.ensures.attempted c.attempt-2.ensures.attempted

pub returns-clause-same : goal.returns-clause-same
returns-clause-same c = arrays-trans c.in_ok-middle.ensures.same c.attempt-2.ensures.same
