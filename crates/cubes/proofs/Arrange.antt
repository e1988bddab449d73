-- A set of variables in the order of a place's digits. Assumes nothing.
use mathlib.Core.Path.{◌≡◌, sym, ap, ap₂, ◌∙◌, subst}
use Prim.Native.Nat.{ℕ, ◌+◌, ◌-◌, ◌*◌, ◌/◌, ◌%◌, ◌^◌, ◌<◌, ◌≤◌}
use native.Mathlib.Nat.{one-mul, mod-lt}
use native.Mathlib.Omega.{arith}
use lib.Bits.{bit_and, bit_or, and_mask, or_shifted}
use lib.Dec.{lit<}
use lib.Pow.{split, pow_pos, pow-add, pow_mono, shl_exact}
use Rattle.wires.specs.Wires.{wire}
use Rattle.wires.proofs.Digits.{wire-low, wire-high, wire-lt, wire-below, wire-above}
use Rattle.cubes.specs.Cubes.{Arranged}

pub one_shl : (n : ℕ) → n ≤ 14 → 1 * 2 ^ n % 2 ^ 32 ≡ 2 ^ n
one_shl n l = shl_exact {a = 1} 1 n 32 (lit< tt) (omega arith) ∙ one-mul (2 ^ n)

-- the lowest n digits of e
low-wires : (n e v : ℕ) → v < n → wire (e % 2 ^ n) v ≡ wire e v
low-wires n e v l = sym (wire-below (e / 2 ^ n) n (e % 2 ^ n) v l) ∙ ap (λ (x : ℕ). wire x v) (split e n)

module _ (n e : ℕ) (hn : n ≤ 14) where
  abbrev word : ℕ
  word =
      bit_or
      (bit_or (bit_and e (1 * 2 ^ n % 2 ^ 32 - 1) * 4 % 2 ^ 32) (e / 2 ^ n % 2 * 2 % 2 ^ 32))
      (e / 2 ^ (n + 1) % 2)

  below : e % 2 ^ n < 2 ^ n
  below = mod-lt e (pow_pos n)

  lower : e % 2 ^ n < 2 ^ 14
  lower = omega (arith, below, pow_mono hn)

  wires-is : bit_and e (1 * 2 ^ n % 2 ^ 32 - 1) * 4 % 2 ^ 32 ≡ e % 2 ^ n * 4
  wires-is =
      ap (λ (x : ℕ). bit_and e (x - 1) * 4 % 2 ^ 32) (one_shl n hn)
      ∙ ap (λ (x : ℕ). x * 4 % 2 ^ 32) (and_mask e n)
      ∙ shl_exact 14 2 32 lower (omega arith)

  cell-a-is : e / 2 ^ n % 2 * 2 % 2 ^ 32 ≡ wire e n * 2
  cell-a-is = shl_exact 1 1 32 (wire-lt e n) (omega arith)

  word-is : word ≡ e % 2 ^ n * 2 ^ 2 + (wire e n * 2 + wire e (n + 1))
  word-is =
      ap (λ (x : ℕ). bit_or x (wire e (n + 1)))
      (ap₂ bit_or wires-is cell-a-is ∙ or_shifted (e % 2 ^ n) 2 (wire e n * 2) (omega (arith, wire-lt e n)) ∙ twice)
      ∙ or_shifted (e % 2 ^ n * 2 + wire e n) 1 (wire e (n + 1)) (wire-lt e (n + 1))
      ∙ omega arith
    where
      twice : e % 2 ^ n * 2 ^ 2 + wire e n * 2 ≡ (e % 2 ^ n * 2 + wire e n) * 2 ^ 1
      twice = omega arith

  abbrev plain : ℕ
  plain = e % 2 ^ n * 2 ^ 2 + (wire e n * 2 + wire e (n + 1))

  plain-arranged : Arranged n e plain
  plain-arranged = record {
    cell_b = wire-low plain ∙ omega (arith, wire-lt e (n + 1));
    cell_a = wire-high plain 0 ∙ wire-low (plain / 2) ∙ omega (arith, wire-lt e n, wire-lt e (n + 1));
    wires = λ v l. wire-above (e % 2 ^ n) 2 (wire e n * 2 + wire e (n + 1)) v (omega (arith, wire-lt e n, wire-lt e (n + 1))) ∙ low-wires n e v l;
    small = omega (arith, below, pow-add 2 n 2, wire-lt e n, wire-lt e (n + 1));
  }

  pub arranged_is : Arranged n e word
  arranged_is = subst (Arranged n e) (sym word-is) plain-arranged
