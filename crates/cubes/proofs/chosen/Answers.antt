-- `cubes::chosen` meets its contract. Assumes nothing.
use mathlib.Core.Path.{◌≡◌, sym, ap, ◌∙◌}
use Prim.Native.Nat.{ℕ, ◌*◌}
use native.Mathlib.Nat.{mul-one, mul-zero}
use native.Mathlib.Omega.{arith}
use Rattle.wires.specs.Wires.{wire}
use Rattle.wires.proofs.Digits.{wire-lt}
use Rattle.cubes.proofs.chosen.Goals as goal

on : (p d : ℕ) → d ≡ 1 → p ≡ p * d
on p d e = sym (ap (λ (x : ℕ). p * x) e ∙ mul-one p)

off : (p d : ℕ) → d ≡ 0 → 0 ≡ p * d
off p d e = sym (ap (λ (x : ℕ). p * x) e ∙ mul-zero p)

pub returns-then-rows-j-eq1 : goal.returns-then-rows-j-eq1
returns-then-rows-j-eq1 c = on _ _ c.if-rows-j-eq1.true

pub returns-else-rows-j-eq1 : goal.returns-else-rows-j-eq1
returns-else-rows-j-eq1 c = off c.args.pattern (wire c.args.rows c.args.j) (omega (arith, wire-lt c.args.rows c.args.j))
