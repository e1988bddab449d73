-- The set of the true terms: two digits for each variable. And what it says of a rule.
--     truths-of      a set that tells each variable is that of the true terms
--     meets-iff      a rule meets a set exactly where their `&` is not 0
--     holds          a rule meets the set of the true terms exactly where it holds
--     empty-never    the empty rule never holds
--     both-always    a rule with both a term and its negation always holds
-- Assumes nothing.
use Rattle.std.proofs.Common.{◌≡◌, ℕ, zero, suc, ◌+◌, ◌-◌, ◌*◌, ◌/◌, ◌%◌, ◌^◌, ◌<◌, ◌≢◌, ◌↔◌, sym, refl, ap, ◌∙◌, ap₂, inl, inr, ⊎_elim, le_of_suc-le-suc, not-suc-le-zero, add-zero, mod-eq_of_lt, arith, pow-add, shl_exact, below_more, le-ltb, lt-ltb, eq-eqb, ne_eqb}
use mathlib.Core.Logic.{by_cases}
use native.Mathlib.Decide.{dec_lt, ℕ_discrete}
use lib.Arith.{digits_lt}
use lib.Bits.{bit_and, bit_or, or_shifted_r}
use Rattle.wires.specs.Wires.{wire}
use Rattle.wires.specs.Terms.{Setting, value, IsTrue, Truths, Holds, Meets}
use Rattle.wires.proofs.Digits.{low_digit, wire-low, wire-high, wire-lt, wire-and, wire-zero, wire-none, wire-below, wire-above, some-wire}

-- ---- the word of the variables' values

abbrev pub word : ℕ → ℕ → ℕ → ℕ → ℕ
word n a x y = bit_or (bit_or a (x * 2 ^ n % 2 ^ 32)) (y * 2 ^ (n + 1) % 2 ^ 32)

module _ (n a x y : ℕ) (b : Setting n a x y) where
  lower-below : x * 2 ^ n + a < 2 ^ (n + 1)
  lower-below = omega (arith, pow-add 2 n 1, digits_lt b.cell_a b.below)

  word-is : word n a x y ≡ y * 2 ^ (n + 1) + (x * 2 ^ n + a)
  word-is =
      ap₂ bit_or
      (ap (bit_or a) (shl_exact 1 n 32 b.cell_a (omega (arith, b.wires))) ∙ or_shifted_r x n a b.below)
      (shl_exact 1 (n + 1) 32 b.cell_b (omega (arith, b.wires)))
      ∙ or_shifted_r y (n + 1) (x * 2 ^ n + a) lower-below

  -- its lowest n digits are the wires', then come cell A's and cell B's
  of-wire : (v : ℕ) → v < n → wire (word n a x y) v ≡ value n a x y v
  unfolding value
  of-wire v l =
      ap (λ (w : ℕ). wire w v) word-is
      ∙ wire-below y (n + 1) (x * 2 ^ n + a) v (omega arith)
      ∙ wire-below x n a v l
      ∙ sym (simp (lt-ltb v n l))

  of-cell-a : (v : ℕ) → v ≡ n → wire (word n a x y) v ≡ value n a x y v
  unfolding value
  of-cell-a v e =
      ap₂ wire word-is (e ∙ sym (add-zero n))
      ∙ wire-below y (n + 1) (x * 2 ^ n + a) (n + 0) (omega arith)
      ∙ wire-above x n a 0 b.below
      ∙ wire-low x
      ∙ mod-eq_of_lt b.cell_a
      ∙ sym (simp (le-ltb v n (omega arith), eq-eqb v n e))

  of-cell-b : (v : ℕ) → v ≡ n + 1 → wire (word n a x y) v ≡ value n a x y v
  unfolding value
  of-cell-b v e =
      ap₂ wire word-is (e ∙ sym (add-zero (n + 1)))
      ∙ wire-above y (n + 1) (x * 2 ^ n + a) 0 lower-below
      ∙ wire-low y
      ∙ mod-eq_of_lt b.cell_b
      ∙ sym (simp (le-ltb v n (omega arith), ne_eqb v n (omega arith)))

  pub word_value : (v : ℕ) → v < n + 2 → wire (word n a x y) v ≡ value n a x y v
  word_value v l =
      by_cases (dec_lt v n) (of-wire v)
      (λ g. by_cases (ℕ_discrete v n) (of-cell-a v) (λ d. of-cell-b v (omega arith)))

-- ---- the set tells the variables below v, by the digits of the word w

abbrev Told : ℕ → ℕ → ℕ → Type 0
Told w set k = (wire set (2 * k) ≡ wire w k) × (wire set (2 * k + 1) ≡ 1 - wire w k)

pub record Tells (w set v : ℕ) : Type 0 where
  pub small : set < 2 ^ (2 * v)
  pub told : (k : ℕ) → k < v → Told w set k

pub tells_none : (w : ℕ) → Tells w 0 0
tells_none w = record { small = omega arith; told = λ k l. (omega arith, omega arith) }

-- of the two digits 2 - d the upper one
other : (d : ℕ) → d < 2 → (2 - d) / 2 % 2 ≡ 1 - d
other zero h = refl
other (suc zero) h = refl
other (suc (suc d)) h = absurd (not-suc-le-zero (le_of_suc-le-suc (le_of_suc-le-suc h)))

module _ (w set v : ℕ) (t : Tells w set v) where
  abbrev pub more : ℕ
  more = (2 - wire w v) * 2 ^ (2 * v) + set

  at-even : wire more (2 * v) ≡ wire w v
  at-even =
      ap (wire more) (sym (add-zero (2 * v)))
      ∙ wire-above (2 - wire w v) (2 * v) set 0 t.small
      ∙ wire-low (2 - wire w v)
      ∙ omega (arith, wire-lt w v)

  at-odd : wire more (2 * v + 1) ≡ 1 - wire w v
  at-odd =
      wire-above (2 - wire w v) (2 * v) set 1 t.small
      ∙ wire-high (2 - wire w v) 0
      ∙ wire-low ((2 - wire w v) / 2)
      ∙ other (wire w v) (wire-lt w v)

  pub tells_more : Tells w more (v + 1)
  tells_more = record {
    small = omega (arith, ap (λ (k : ℕ). 2 ^ k) twice, pow-add 2 (2 * v) 2, digits_lt top t.small);
    told = below_more (Told w more) v
        (λ k l. (
          wire-below (2 - wire w v) (2 * v) set (2 * k) (omega arith) ∙ (t.told k l).0,
          wire-below (2 - wire w v) (2 * v) set (2 * k + 1) (omega arith) ∙ (t.told k l).1,
        ))
        (at-even, at-odd);
  }
    where
      twice : 2 * (v + 1) ≡ 2 * v + 2
      twice = omega arith

      top : 2 - wire w v < 4
      top = omega arith

-- the variables told, the set is that of the true terms
module _ (n a x y set : ℕ) (b : Setting n a x y) (t : Tells (word n a x y) set (n + 2)) where
  even-term : (k : ℕ) → k < 2 * n + 4 → k % 2 ≡ 0 → wire set k ≡ value n a x y (k / 2)
  even-term k l e = ap (wire set) split ∙ (t.told (k / 2) half).0 ∙ word_value n a x y b (k / 2) half
    where
      half : k / 2 < n + 2
      half = omega arith

      split : k ≡ 2 * (k / 2)
      split = omega arith

  odd-term : (k : ℕ) → k < 2 * n + 4 → k % 2 ≡ 1 → wire set k ≡ 1 - value n a x y (k / 2)
  odd-term k l e = ap (wire set) split ∙ (t.told (k / 2) half).1 ∙ ap (λ (d : ℕ). 1 - d) (word_value n a x y b (k / 2) half)
    where
      half : k / 2 < n + 2
      half = omega arith

      split : k ≡ 2 * (k / 2) + 1
      split = omega arith

  value-below : (k : ℕ) → k < 2 * n + 4 → value n a x y (k / 2) < 2
  value-below k l = omega (arith, sym (word_value n a x y b (k / 2) half), wire-lt (word n a x y) (k / 2))
    where
      half : k / 2 < n + 2
      half = omega arith

  is_true : (k : ℕ) → k < 2 * n + 4 → wire set k ≡ 1 → IsTrue n a x y k
  is_true k l s =
      ⊎_elim (λ e. inl (e, omega (arith, even-term k l e))) (λ e. inr (e, omega (arith, odd-term k l e, value-below k l))) (low_digit k)

  pub truths-of : Truths n a x y set
  truths-of = record {
    each = λ k l. (
      is_true k l,
      ⊎_elim (λ p. omega (arith, even-term k l p.0)) (λ p. omega (arith, odd-term k l p.0)),
    );
    none = omega (arith, t.small, ap (λ (k : ℕ). 2 ^ k) twice);
  }
    where
      twice : 2 * (n + 2) ≡ 2 * n + 4
      twice = omega arith

-- ---- a rule and the set of the true terms

pub meets : (rule set : ℕ) → (bit_and rule set ≡ 0 → ⊥) → Meets rule set
meets rule set h =
    let some = some-wire (bit_and rule set) (omega arith) in
    (some.0, omega (arith, wire-and rule set some.0, wire-lt rule some.0), omega (arith, wire-and rule set some.0, wire-lt set some.0))

pub meets-not : (rule set : ℕ) → bit_and rule set ≡ 0 → Meets rule set → ⊥
meets-not rule set e m =
    omega (arith, wire-and rule set m.0, ap (λ (x : ℕ). wire x m.0) e, wire-zero m.0)

pub meets-iff : (rule set : ℕ) → (bit_and rule set ≢ 0) ↔ Meets rule set
meets-iff rule set = (meets rule set, λ m e. meets-not rule set e m)

-- a rule of the board's terms meets the set of the true ones exactly where it holds
pub holds : (n a x y rule set : ℕ) → Truths n a x y set → Meets rule set ↔ Holds n a x y rule
holds n a x y rule set t = (there, λ h. (h.0, h.2, (t.each h.0 h.1).1 h.3))
  where
    there : Meets rule set → Holds n a x y rule
    there m = (m.0, low, m.1, (t.each m.0 low).0 m.2)
      where
        low : m.0 < 2 * n + 4
        low = by_cases (dec_lt m.0 (2 * n + 4)) (λ l. l) (λ g. omega (arith, wire-none (2 * n + 4) m.0 t.none (omega arith)))

-- ---- the empty rule, and a rule with a term and its negation

pub empty-never : (n a x y : ℕ) → Holds n a x y 0 → ⊥
empty-never n a x y h = omega (arith, h.2, wire-zero h.0)

pub both-always : (n a x y rule v : ℕ) → Setting n a x y → v < n + 2 → wire rule (2 * v) ≡ 1 → wire rule (2 * v + 1) ≡ 1 → Holds n a x y rule
both-always n a x y rule v s l plain negated =
    ⊎_elim (λ e. (2 * v + 1, omega arith, negated, inr (odd, ap (value n a x y) odd-half ∙ sym (word_value n a x y s v l) ∙ e)))
    (λ e. (2 * v, omega arith, plain, inl (even, ap (value n a x y) even-half ∙ sym (word_value n a x y s v l) ∙ e)))
    (low_digit (word n a x y / 2 ^ v))
  where
    even : 2 * v % 2 ≡ 0
    even = omega arith

    odd : (2 * v + 1) % 2 ≡ 1
    odd = omega arith

    even-half : 2 * v / 2 ≡ v
    even-half = omega arith

    odd-half : (2 * v + 1) / 2 ≡ v
    odd-half = omega arith
