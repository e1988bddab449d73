-- The rules and the excuses of a board, and the places where a rule is broken or an excuse holds.
--     marked, unmarked                      the table with a rule's places
--     waived, unwaived                      the table with an excuse's places
--     FirstFaults                           the table of the first rules
--     none-marked, one_more, all-marked     of none, of one more, and of all
--     first_more                            one of the first k + 1
-- Assumes nothing.
use mathlib.Core.Path.{◌≡◌, refl, sym, ap, ◌∙◌, subst}
use mathlib.Core.Logic.{◌⊎◌, ◌↔◌, inl, inr, ⊎_elim, by_cases}
use mathlib.Core.List.{List}
use Prim.Native.Nat.{ℕ, zero, suc, ◌+◌, ◌-◌, ◌*◌, ◌/◌, ◌%◌, ◌^◌, ◌<◌}
use native.Mathlib.Numerals.{add-one}
use native.Mathlib.Decide.{dec_lt, ℕ_discrete}
use native.Mathlib.Omega.{arith}
use borrow.Author.Tests.{le-ltb, eq-eqb, ne_eqb}
use lib.Bits.{bit_and, bit_or}
use lib.ListN.{length, get_or}
use Rattle.wires.specs.Wires.{wire}
use Rattle.wires.specs.Terms.{Setting, value, IsTrue, Breaks, Fault, Excuses}
use Rattle.wires.proofs.Digits.{low_digit, wire-low, wire-high, wire-zero, wire-none, wire-above}
use Rattle.wires.proofs.Sets.{wire-value, same_true}
use Rattle.cubes.specs.declared.table.Table.{Table}
use Rattle.cubes.specs.Cubes.{Evens, Arranged, Filled}
use Rattle.cubes.proofs.Cubed.{used}
use Rattle.faults.specs.Table.{bit, Faults, Marked, Cleared, Waived}
use Rattle.faults.proofs.Places.{place, Has, more, no_more}

-- ---- the cells' values

value-a : (n a x y : ℕ) → value n a x y n ≡ x
unfolding value
value-a n a x y = simp (le-ltb n n (omega arith), eq-eqb n n refl)

value-b : (n a x y : ℕ) → value n a x y (n + 1) ≡ y
unfolding value
value-b n a x y = simp (le-ltb (n + 1) n (omega arith), ne_eqb (n + 1) n (λ e. omega arith))

-- the digit p is for the variable v in the two sets of digits, d of the plain terms and u of the negated ones, and in the place w
record Tells (n a x y terms d u w p v : ℕ) : Type 0 where
  on : wire d p ≡ wire terms (2 * v)
  off : wire u p ≡ wire terms (2 * v + 1)
  is : wire w p ≡ value n a x y v

-- the sets of a rule's or an excuse's terms
module _ (n terms ed eu d u : ℕ) (e₀ : Evens terms ed) (e₁ : Evens (terms / 2) eu) (a₀ : Arranged n ed d) (a₁ : Arranged n eu u) where
  module _ (a x y : ℕ) (b : Setting n a x y) where
    even : (v : ℕ) → v < 16 → wire ed v ≡ wire terms (2 * v)
    even v l = e₀.each v l

    odd : (v : ℕ) → v < 16 → wire eu v ≡ wire terms (2 * v + 1)
    odd v l = e₁.each v l ∙ sym (wire-high terms (2 * v)) ∙ ap (wire terms) (sym (add-one (2 * v)))

    abbrev Here : ℕ → ℕ → Type 0
    Here p v = Tells n a x y terms d u (place a x y) p v

    at-b : Here 0 (n + 1)
    at-b = record {
      on = a₀.cell_b ∙ even (n + 1) (omega (arith, b.wires));
      off = a₁.cell_b ∙ odd (n + 1) (omega (arith, b.wires));
      is = wire-low (place a x y) ∙ omega (arith, b.cell_b) ∙ sym (value-b n a x y);
    }

    at_a : Here 1 n
    at_a = record {
      on = a₀.cell_a ∙ even n (omega (arith, b.wires));
      off = a₁.cell_a ∙ odd n (omega (arith, b.wires));
      is = wire-high (place a x y) 0 ∙ wire-low (place a x y / 2) ∙ second ∙ sym (value-a n a x y);
    }
      where
        second : place a x y / 2 % 2 ≡ x
        second = omega (arith, b.cell_a, b.cell_b)

    at-wire : (v : ℕ) → v < n → Here (2 + v) v
    at-wire v l = record {
      on = a₀.wires v l ∙ even v (omega (arith, b.wires));
      off = a₁.wires v l ∙ odd v (omega (arith, b.wires));
      is = wire-above a 2 (x * 2 + y) v (omega (arith, b.cell_a, b.cell_b)) ∙ sym (wire-value n a x y v l);
    }

    -- each digit is for a variable, and each variable has a digit
    of-digit : (p : ℕ) → p < n + 2 → (v : ℕ) × (v < n + 2) × Here p v
    of-digit zero l = (n + 1, omega arith, at-b)
    of-digit (suc zero) l = (n, omega arith, at_a)
    of-digit (suc (suc v)) l = (v, omega arith, subst (λ (p : ℕ). Here p v) two (at-wire v (omega arith)))
      where
        two : 2 + v ≡ suc (suc v)
        two = omega arith

    of-variable : (v : ℕ) → v < n + 2 → (p : ℕ) × (p < n + 2) × Here p v
    of-variable v l =
        by_cases (dec_lt v n) (λ h. (2 + v, omega arith, at-wire v h))
        (λ g. by_cases (ℕ_discrete v n) (λ e. (1, omega arith, subst (Here 1) (sym e) at_a))
        (λ k. (0, omega arith, subst (Here 0) (top g k) at-b)))
      where
        top : (v < n → ⊥) → (v ≡ n → ⊥) → n + 1 ≡ v
        top g k = omega arith

    -- a term is true by the digit of its variable
    true-plain : (p v : ℕ) → Here p v → IsTrue n a x y (2 * v) ↔ (wire (place a x y) p ≡ 1)
    true-plain p v h = (
      ⊎_elim (λ q. h.is ∙ ap (value n a x y) (sym half) ∙ q.1) (λ q. absurd (omega (arith, q.0))),
      λ e. inl (omega arith, ap (value n a x y) half ∙ sym h.is ∙ e),
    )
      where
        half : 2 * v / 2 ≡ v
        half = omega arith

    true-negated : (p v : ℕ) → Here p v → IsTrue n a x y (2 * v + 1) ↔ (wire (place a x y) p ≡ 0)
    true-negated p v h = (
      ⊎_elim (λ q. absurd (omega (arith, q.0))) (λ q. h.is ∙ ap (value n a x y) (sym half) ∙ q.1),
      λ e. inr (omega arith, ap (value n a x y) half ∙ sym h.is ∙ e),
    )
      where
        half : (2 * v + 1) / 2 ≡ v
        half = omega arith

    -- what holds of the terms 2v and 2v + 1 for each variable holds of each term
    each-term : (P : ℕ → Type 0) → ((v : ℕ) → v < n + 2 → P (2 * v) × P (2 * v + 1)) → (t : ℕ) → t < 2 * n + 4 → P t
    each-term P f t l =
        ⊎_elim (λ e. subst P (even_is e) (f (t / 2) (omega arith)).0) (λ e. subst P (odd_is e) (f (t / 2) (omega arith)).1) (low_digit t)
      where
        even_is : t % 2 ≡ 0 → 2 * (t / 2) ≡ t
        even_is e = omega arith

        odd_is : t % 2 ≡ 1 → 2 * (t / 2) + 1 ≡ t
        odd_is e = omega arith

    -- ---- the rule is broken where each of its terms is false

    breaks-has : Breaks n a x y terms ↔ Has (n + 2) (place a x y) d u
    breaks-has = (there, back)
      where
        there : Breaks n a x y terms → Has (n + 2) (place a x y) d u
        there k = record {
          falls = λ p l e.
              let h = of-digit p l in
              ⊎_elim (λ z. z) (λ o. absurd (k (2 * h.0, omega arith, sym h.2.on ∙ e, (true-plain p h.0 h.2).1 o)))
              (low_digit (place a x y / 2 ^ p));
          rises = λ p l e.
              let h = of-digit p l in
              ⊎_elim (λ z. absurd (k (2 * h.0 + 1, omega arith, sym h.2.off ∙ e, (true-negated p h.0 h.2).1 z))) (λ o. o)
              (low_digit (place a x y / 2 ^ p));
        }

        back : Has (n + 2) (place a x y) d u → Breaks n a x y terms
        back g k =
            each-term (λ (t : ℕ). wire terms t ≡ 1 → IsTrue n a x y t → ⊥)
            (λ v l.
            let h = of-variable v l in (
              λ e i. omega (arith, (true-plain h.0 v h.2).0 i, g.falls h.0 h.1 (h.2.on ∙ e)),
              λ e i. omega (arith, (true-negated h.0 v h.2).0 i, g.rises h.0 h.1 (h.2.off ∙ e)),
            ))
            k.0 k.1 k.2 k.3

    -- ---- the excuse holds where each of its terms is true

    excuses-has : terms < 2 ^ (2 * n) → Excuses n a terms ↔ Has (n + 2) (place a x y) u d
    excuses-has small = (there, back)
      where
        holds : Excuses n a terms → (t : ℕ) → wire terms t ≡ 1 → IsTrue n a x y t
        holds k t e =
            by_cases (dec_lt t (2 * n)) (λ l. same_true n a 0 0 x y t l (k t l e))
            (λ g. absurd (omega (arith, e, wire-none (2 * n) t small (omega arith))))

        there : Excuses n a terms → Has (n + 2) (place a x y) u d
        there k = record {
          falls = λ p l e. let h = of-digit p l in (true-negated p h.0 h.2).0 (holds k (2 * h.0 + 1) (sym h.2.off ∙ e));
          rises = λ p l e. let h = of-digit p l in (true-plain p h.0 h.2).0 (holds k (2 * h.0) (sym h.2.on ∙ e));
        }

        back : Has (n + 2) (place a x y) u d → Excuses n a terms
        back g t l e =
            same_true n a x y 0 0 t l
            (each-term (λ (t : ℕ). wire terms t ≡ 1 → IsTrue n a x y t)
            (λ v l.
            let h = of-variable v l in (
              λ e. (true-plain h.0 v h.2).1 (g.rises h.0 h.1 (h.2.on ∙ e)),
              λ e. (true-negated h.0 v h.2).1 (g.falls h.0 h.1 (h.2.off ∙ e)),
            ))
            t (omega arith) e)

-- ---- the table s with a rule's or an excuse's places, which are those of a cube, or none

module _ (s : Table) (terms ed eu d u : ℕ) (e₀ : Evens terms ed) (e₁ : Evens (terms / 2) eu) (a₀ : Arranged s.wires ed d) (a₁ : Arranged s.wires eu u) where
  broken : (a x y : ℕ) → Setting s.wires a x y → Breaks s.wires a x y terms ↔ Has (s.wires + 2) (place a x y) d u
  broken = breaks-has s.wires terms ed eu d u e₀ e₁ a₀ a₁

  pub marked : (t : Table) → bit_and d u ≡ 0 → Filled (bit_or d u) u s t → Marked terms s t
  marked t z f = record {
    wires = f.wires;
    tells = more s.wires d u a₀.small a₁.small (λ a x y. Breaks s.wires a x y terms) broken s.words t.words z f.each;
  }

  pub unmarked : (bit_and d u ≡ 0 → ⊥) → Marked terms s s
  unmarked g = record {
    wires = refl;
    tells = no_more s.wires d u a₀.small a₁.small (λ a x y. Breaks s.wires a x y terms) broken s.words g;
  }

  module _ (small : terms < 2 ^ (2 * s.wires)) where
    excused : (a x y : ℕ) → Setting s.wires a x y → Excuses s.wires a terms ↔ Has (s.wires + 2) (place a x y) u d
    excused a x y b = excuses-has s.wires terms ed eu d u e₀ e₁ a₀ a₁ a x y b small

    pub waived : (t : Table) → bit_and u d ≡ 0 → Filled (bit_or u d) d s t → Waived terms s t
    waived t z f = record {
      wires = f.wires;
      tells = more s.wires u d a₁.small a₀.small (λ a x y. Excuses s.wires a terms) excused s.words t.words z f.each;
    }

    pub unwaived : (bit_and u d ≡ 0 → ⊥) → Waived terms s s
    unwaived g = record {
      wires = refl;
      tells = no_more s.wires u d a₁.small a₀.small (λ a x y. Excuses s.wires a terms) excused s.words g;
    }

-- ---- the table of the first rules

-- a table of n wires that has 1 exactly where one of the first k rules is broken
pub record FirstFaults (n : ℕ) (rules : List ℕ) (k : ℕ) (t : Table) : Type 0 where
  pub wires : t.wires ≡ n
  pub tells : (a x y : ℕ) → Setting n a x y → (bit t.words a x y ≡ 1) ↔ Fault n rules k a x y

pub none-marked : (n end : ℕ) (rules s : List ℕ) (t : Table) → t.wires ≡ n → end ≡ 4 * 2 ^ (n - 6) → Cleared end s t.words → FirstFaults n rules 0 t
none-marked n end rules s t e used-is zeros = record {
  wires = e;
  tells = λ a x y b. (
    λ h. absurd
        (omega (
          arith,
          sym h,
          ap (λ (w : ℕ). wire w (4 * (a % 16) + 2 * x + y)) (zeros.each (a / 16) (omega (arith, used n a b.below))),
          wire-zero (4 * (a % 16) + 2 * x + y),
        )),
    λ h. absurd (omega (arith, h.1)),
  );
}

-- one of the first k + 1 is one of the first k, or the one at k
pub first_more : (P : ℕ → Type 0) (k : ℕ) → ((i : ℕ) × (i < k + 1) × P i) ↔ (((i : ℕ) × (i < k) × P i) ⊎ P k)
first_more P k = (
  λ h. by_cases (ℕ_discrete h.0 k) (λ e. inr (subst P e h.2)) (λ g. inl (h.0, omega (arith, h.1), h.2)),
  ⊎_elim (λ h. (h.0, omega (arith, h.1), h.2)) (λ h. (k, omega arith, h)),
)

pub one_more : (n : ℕ) (rules : List ℕ) (i : ℕ) (s t : Table) → FirstFaults n rules i s → Marked (get_or rules i 0) s t → FirstFaults n rules (i + 1) t
one_more n rules i s t f m = record {
  wires = m.wires ∙ f.wires;
  tells = λ a x y b.
      let first = first_more (λ (j : ℕ). Breaks n a x y (get_or rules j 0)) i in
      let more = rw f.wires at m.tells in (
        λ h. first.1 (⊎_elim (λ k. inl ((f.tells a x y b).0 k)) inr ((more a x y b).0 h)),
        λ h. (more a x y b).1 (⊎_elim (λ k. inl ((f.tells a x y b).1 k)) inr (first.0 h)),
      );
}

pub all-marked : (n : ℕ) (rules : List ℕ) (k : ℕ) (t : Table) → k ≡ length rules → FirstFaults n rules k t → Faults n rules t
all-marked n rules k t e f = record { wires = f.wires; tells = rw (sym e) f.tells }
