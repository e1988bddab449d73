-- `cubes::pattern_of` meets its contract, by the law `fits`. Assumes nothing.
use native.Mathlib.Omega.{arith}
use Rattle.cubes.proofs.Parts.{part_le}
use Rattle.cubes.proofs.Patterns.{fits}
use Rattle.cubes.proofs.pattern_of.Goals as goal

pub overflow_shl-result : goal.overflow_shl-result
overflow_shl-result c = omega (arith, part_le c.args.up c.args.fixed c.requires.part)

pub returns : goal.returns
returns c = fits c.args.fixed c.args.up c.requires.fixed_bound c.requires.part
