-- What a look's test tells: where it finds nothing, each of the two bits is 0 or its claim is marked.
-- Assumes nothing.
use Rattle.std.proofs.Common.{◌≡◌, ℕ, ◌+◌, ◌-◌, ◌*◌, ◌/◌, ◌%◌, ◌^◌, ◌<◌, get_or, refl, ap, ◌∙◌, inr, arith, shl_exact}
use lib.Bits.{bit_and, bit_or}
use lib.Pow.{shl-shr}
use Rattle.wires.specs.Wires.{wire}
use Rattle.wires.proofs.Digits.{wire-and, wire-or, wire-not, wire-zero}
use Rattle.grid.specs.Grid.{bit}
use Rattle.scan.specs.Steps.{Aim, base}
use Rattle.scan.specs.Reach.{Store, mark, Known, Left, Looked}

-- one less than a mark of 0 is a mask of all eight bits
full : (k up : ℕ) → k < 8 → up < 2 ^ 8 → (up + 1) % 2 ^ 8 ≡ 0 → wire (bit_and (1 * 2 ^ k % 2 ^ 8) up) k ≡ 1
full k up h m e = wire-and (1 * 2 ^ k % 2 ^ 8) up k ∙ omega (arith, one, all)
  where
    one : wire (1 * 2 ^ k % 2 ^ 8) k ≡ 1
    one = ap (λ (x : ℕ). x / 2 ^ k % 2) (shl_exact 1 k 8 (omega arith) (omega arith)) ∙ ap (λ (x : ℕ). x % 2) (shl-shr 1 k)

    is : up ≡ 2 ^ 8 - 1 - 0
    is = omega arith

    all : wire up k ≡ 1
    all = ap (λ (x : ℕ). wire x k) is ∙ wire-not 8 0 k (omega arith) h ∙ omega (arith, wire-zero k)

-- a bit of f that the mask has
meets : (f mask k : ℕ) → bit_and f mask ≡ 0 → wire mask k ≡ 1 → bit f k ≡ 1 → ⊥
unfolding bit
meets f mask k e h b = omega (arith, wire-and f mask k, ap (λ (x : ℕ). wire x k) e, wire-zero k)

module _ (f low high up on : ℕ) (h : bit_and f (bit_or (bit_and (1 * 2 ^ low % 2 ^ 8) up) (bit_and (1 * 2 ^ high % 2 ^ 8) on)) ≡ 0) where
  pub known-base : low < 8 → up < 2 ^ 8 → Known (bit f low) ((up + 1) % 2 ^ 8)
  known-base l m b z =
      meets f (bit_or (bit_and (1 * 2 ^ low % 2 ^ 8) up) (bit_and (1 * 2 ^ high % 2 ^ 8) on)) low h
      (wire-or (bit_and (1 * 2 ^ low % 2 ^ 8) up) (bit_and (1 * 2 ^ high % 2 ^ 8) on) low ∙ omega (arith, full low up l m z))
      b

  pub known_next : high < 8 → on < 2 ^ 8 → Known (bit f high) ((on + 1) % 2 ^ 8)
  known_next l m b z =
      meets f (bit_or (bit_and (1 * 2 ^ low % 2 ^ 8) up) (bit_and (1 * 2 ^ high % 2 ^ 8) on)) high h
      (wire-or (bit_and (1 * 2 ^ low % 2 ^ 8) up) (bit_and (1 * 2 ^ high % 2 ^ 8) on) high ∙ omega (arith, full high on l m z))
      b

-- a look that finds nothing new leaves everything as it is
pub looked-none : {v : Aim} {s : Store} {tail l a : ℕ} → Known (bit (get_or v.faults a 0) v.own.low) (mark s (base v a)) × Known (bit (get_or v.faults a 0) v.own.high) (mark s (base v a + 1)) → Looked v s tail l a s tail
looked-none {v} {s} {tail} {l} {a} k = record { middle = s; between = tail; to_base = inr (k.0, same); to_next = inr (k.1, same) }
  where
    same : Left s tail s tail
    same = record { reached = refl; queue = refl; from = refl; by = refl; end = refl }
