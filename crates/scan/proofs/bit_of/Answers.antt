-- `scan::bit_of` meets its contract, which is the code's own arithmetic. Assumes nothing.
use Rattle.std.proofs.Common.{refl}
use Rattle.grid.specs.Grid.{bit}
use Rattle.scan.proofs.bit_of.Goals as goal

pub returns : goal.returns
unfolding bit
returns c = refl
