-- `steps::read_byte` meets its contract. Assumes nothing.
use Rattle.std.proofs.Common.{rules}
use Rattle.steps.specs.Bytes.{byte}
use Rattle.steps.proofs.read_byte.Goals as goal

pub returns-in_default : goal.returns-in_default
unfolding byte
returns-in_default c = search rules

pub returns : goal.returns
unfolding byte
returns c = search rules
