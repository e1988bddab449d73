-- The places of a table that have 0 at the digits of one set and 1 at those of another.
--     place                  the place of a combination and the cells' values
--     Has                    a number has such digits
--     cube                   the two sets make a cube
--     more, no_more          a table with the cube's places, by what holds at them; where the sets meet there are none
-- Assumes nothing.
use mathlib.Core.Path.{◌≡◌, sym, ap, ap₂, ◌∙◌}
use mathlib.Core.Logic.{◌⊎◌, ◌↔◌, inl, inr, ⊎_elim, by_cases}
use mathlib.Core.List.{List}
use Prim.Native.Nat.{ℕ, ◌+◌, ◌*◌, ◌/◌, ◌%◌, ◌^◌, ◌<◌, min, max}
use native.Mathlib.Nat.{lt_of_le_of_lt}
use native.Mathlib.Decide.{dec_lt}
use native.Mathlib.Omega.{arith}
use lib.Bits.{bit_and, bit_or, and_le_r, or_lt}
use lib.ListN.{get_or}
use lib.Pow.{pow-add}
use Rattle.wires.specs.Wires.{wire}
use Rattle.wires.specs.Terms.{Setting}
use Rattle.wires.proofs.Digits.{low_digit, wire-lt, wire-and, wire-or, wire-zero, wire-none, some-wire}
use Rattle.cubes.specs.Cubes.{Part, Cube, at}
use Rattle.cubes.proofs.Parts.{same}
use Rattle.faults.specs.Table.{bit}

abbrev pub place : ℕ → ℕ → ℕ → ℕ
place a x y = a * 2 ^ 2 + (x * 2 + y)

-- w has 0 at each digit of d, and 1 at each of u, of the lowest m
pub record Has (m w d u : ℕ) : Type 0 where
  pub falls : (p : ℕ) → p < m → wire d p ≡ 1 → wire w p ≡ 0
  pub rises : (p : ℕ) → p < m → wire u p ≡ 1 → wire w p ≡ 1

module _ (m w d u : ℕ) (hd : d < 2 ^ m) (hu : u < 2 ^ m) where
  digit-is : (p : ℕ) → wire (bit_and w (bit_or d u)) p ≡ min (wire w p) (max (wire d p) (wire u p))
  digit-is p = wire-and w (bit_or d u) p ∙ ap (min (wire w p)) (wire-or d u p)

  has_in : Has m w d u → bit_and w (bit_or d u) ≡ u
  has_in h =
      same m (bit_and w (bit_or d u)) u (lt_of_le_of_lt (and_le_r w (bit_or d u)) (or_lt m d u hd hu)) hu
      (λ p l. digit-is p ∙ choice p l)
    where
      choice : (p : ℕ) → p < m → min (wire w p) (max (wire d p) (wire u p)) ≡ wire u p
      choice p l =
          ⊎_elim
          (λ zu. ⊎_elim (λ zd. omega (arith, zu, zd)) (λ od. omega (arith, zu, od, h.falls p l od)) (low_digit (d / 2 ^ p)))
          (λ ou. omega (arith, ou, h.rises p l ou, wire-lt d p))
          (low_digit (u / 2 ^ p))

  has-out : bit_and d u ≡ 0 → bit_and w (bit_or d u) ≡ u → Has m w d u
  has-out z e = record {
    falls = λ p l o. omega (arith, meet p, apart p, o, wire-lt w p);
    rises = λ p l o. omega (arith, meet p, o);
  }
    where
      apart : (p : ℕ) → min (wire d p) (wire u p) ≡ 0
      apart p = sym (wire-and d u p) ∙ ap (λ (k : ℕ). wire k p) z ∙ wire-zero p

      meet : (p : ℕ) → min (wire w p) (max (wire d p) (wire u p)) ≡ wire u p
      meet p = sym (digit-is p) ∙ ap (λ (k : ℕ). wire k p) e

  -- no number has both at one digit
  has-none : (bit_and d u ≡ 0 → ⊥) → Has m w d u → ⊥
  has-none g h =
      let some = some-wire (bit_and d u) (omega arith) in
      let p = some.0 in
      let both = sym (wire-and d u p) ∙ some.1 in
      let l : p < m = by_cases (dec_lt p m) (λ h. h) (λ h. absurd (omega (arith, both, wire-none m p hd (omega arith)))) in
      omega (arith, h.falls p l (omega (arith, both, wire-lt d p, wire-lt u p)), h.rises p l (omega (arith, both, wire-lt d p, wire-lt u p)))

-- ---- the digit of the table

place-word : (a x y : ℕ) → x < 2 → y < 2 → place a x y / 64 ≡ a / 16
place-word a x y hx hy = omega arith

place-digit : (a x y : ℕ) → x < 2 → y < 2 → place a x y % 64 ≡ 4 * (a % 16) + 2 * x + y
place-digit a x y hx hy = omega arith

at-bit : (t : List ℕ) (a x y : ℕ) → x < 2 → y < 2 → at t (place a x y) ≡ bit t a x y
at-bit t a x y hx hy = ap₂ (λ (w p : ℕ). wire (get_or t w 0) p) (place-word a x y hx hy) (place-digit a x y hx hy)

place-below : (n a x y : ℕ) → Setting n a x y → place a x y < 2 ^ (n + 2)
place-below n a x y b = omega (arith, b.below, b.cell_a, b.cell_b, pow-add 2 n 2)

-- ---- the table with the places of a cube

part-or : (m d u : ℕ) → d < 2 ^ m → u < 2 ^ m → Part u (bit_or d u)
part-or m d u hd hu =
    same m (bit_and u (bit_or d u)) u (lt_of_le_of_lt (and_le_r u (bit_or d u)) (or_lt m d u hd hu)) hu
    (λ p l. wire-and u (bit_or d u) p ∙ ap (min (wire u p)) (wire-or d u p) ∙ omega arith)

module _ (n d u : ℕ) (hd : d < 2 ^ (n + 2)) (hu : u < 2 ^ (n + 2)) where
  pub cube : Cube n (bit_or d u) u
  cube = record { below = or_lt (n + 2) d u hd hu; part = part-or (n + 2) d u hd hu }

  -- P holds at the places that have 0 at d and 1 at u
  module _ (P : ℕ → ℕ → ℕ → Type 0) (is : (a x y : ℕ) → Setting n a x y → P a x y ↔ Has (n + 2) (place a x y) d u) where
    pub more : (s t : List ℕ) → bit_and d u ≡ 0
        → ((p : ℕ) → p < 2 ^ (n + 2) → (at t p ≡ 1) ↔ ((at s p ≡ 1) ⊎ (bit_and p (bit_or d u) ≡ u)))
        → (a x y : ℕ) → Setting n a x y → (bit t a x y ≡ 1) ↔ ((bit s a x y ≡ 1) ⊎ P a x y)
    more s t z f a x y b = (
      λ h.
          ⊎_elim (λ k. inl (sym (at-bit s a x y b.cell_a b.cell_b) ∙ k))
          (λ k. inr ((is a x y b).1 (has-out (n + 2) (place a x y) d u hd hu z k)))
          ((f (place a x y) (place-below n a x y b)).0 (at-bit t a x y b.cell_a b.cell_b ∙ h)),
      λ h.
          sym (at-bit t a x y b.cell_a b.cell_b)
          ∙ (f (place a x y) (place-below n a x y b)).1
          (⊎_elim (λ k. inl (at-bit s a x y b.cell_a b.cell_b ∙ k)) (λ k. inr (has_in (n + 2) (place a x y) d u hd hu ((is a x y b).0 k))) h),
    )

    pub no_more : (s : List ℕ) → (bit_and d u ≡ 0 → ⊥) → (a x y : ℕ) → Setting n a x y → (bit s a x y ≡ 1) ↔ ((bit s a x y ≡ 1) ⊎ P a x y)
    no_more s g a x y b = (inl, ⊎_elim (λ k. k) (λ k. absurd (has-none (n + 2) (place a x y) d u hd hu g ((is a x y b).0 k))))
