-- `wires::truths` meets its contract, by its invariant. Assumes nothing.
use Rattle.std.proofs.Common.{◌≡◌, ℕ, ◌+◌, ◌-◌, ◌*◌, ◌%◌, ◌^◌, ◌<◌, ◌≤◌, sym, ap, ◌∙◌, subst, arith, shl_exact}
use lib.Bits.{bit_or, or_shifted_r}
use Rattle.wires.specs.Wires.{wire}
use Rattle.wires.specs.Terms.{Setting, Truths}
use Rattle.wires.proofs.Terms.{word, Tells, tells_more, truths-of}
use Rattle.wires.proofs.truths.Goals as goal

-- the set with the two digits of one more variable
turn : (w set v : ℕ) → v ≤ 15 → Tells w set v → Tells w (bit_or set ((2 - wire w v) * 2 ^ (2 * v) % 2 ^ 32)) (v + 1)
turn w set v l t = subst (λ (s : ℕ). Tells w s (v + 1)) (sym same) (tells_more w set v t)
  where
    top : 2 - wire w v < 2 ^ 2
    top = omega arith

    same : bit_or set ((2 - wire w v) * 2 ^ (2 * v) % 2 ^ 32) ≡ (2 - wire w v) * 2 ^ (2 * v) + set
    same = ap (bit_or set) (shl_exact 2 (2 * v) 32 top (omega arith)) ∙ or_shifted_r (2 - wire w v) (2 * v) set t.small

finish : (n a x y set v : ℕ) → Setting n a x y → v ≡ n + 2 → Tells (word n a x y) set v → Truths n a x y set
finish n a x y set v b e t = truths-of n a x y set b (subst (Tells (word n a x y) set) e t)

pub loop-v-preserved : goal.loop-v-preserved
loop-v-preserved c = turn _ _ _ (omega arith) c.loop-v.invariant

pub returns : goal.returns
returns c = finish _ _ _ _ _ _ c.requires (omega arith) c.loop-v.invariant
