-- `cubes::evens` meets its contract, by the law `gathered-is`. Assumes nothing.
use Rattle.cubes.proofs.Gather.{gathered-is}
use Rattle.cubes.proofs.evens.Goals as goal

pub returns : goal.returns
returns c = gathered-is c.args.x
