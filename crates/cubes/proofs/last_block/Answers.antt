-- `cubes::last_block` meets its contract, by the law `last-is`. Assumes nothing.
use mathlib.Core.Path.{ap, ◌∙◌}
use Prim.Native.Nat.{ℕ, ◌-◌, ◌/◌}
use native.Mathlib.Omega.{arith}
use lib.Pow.{pow_pos}
use Rattle.cubes.proofs.Arrange.{one_shl}
use Rattle.cubes.proofs.Cubed.{last-is}
use Rattle.cubes.proofs.last_block.Goals as goal

pub overflow_sub-result : goal.overflow_sub-result
overflow_sub-result c = omega (arith, one_shl c.args.n c.requires, pow_pos c.args.n)

pub returns : goal.returns
returns c = ap (λ (x : ℕ). (x - 1) / 64) (one_shl c.args.n c.requires) ∙ last-is c.args.n
