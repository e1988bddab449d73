-- `cubes::arranged` meets its contract, by the law `arranged_is`. Assumes nothing.
use native.Mathlib.Omega.{arith}
use lib.Pow.{pow_pos}
use Rattle.cubes.proofs.Arrange.{one_shl, arranged_is}
use Rattle.cubes.proofs.arranged.Goals as goal

pub overflow_sub-wires : goal.overflow_sub-wires
overflow_sub-wires c = omega (arith, one_shl c.args.n c.requires.n_bound, pow_pos c.args.n)

pub returns : goal.returns
returns c = arranged_is c.args.n c.args.e c.requires.n_bound
