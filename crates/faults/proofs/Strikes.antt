-- The table while combinations are struck: turned, with the excuses' places filled in, and turned back.
--     Waives                        the table with the places of the first excuses
--     none-waived, one-waived       none of them, and one more
--     struck                        what it is after the second turn
--     none-struck                   without excuses the table stays
-- Assumes nothing.
use mathlib.Core.Path.{◌≡◌, refl, ◌∙◌}
use mathlib.Core.Logic.{◌⊎◌, ◌↔◌, inl, inr, ⊎_elim}
use mathlib.Core.List.{List}
use Prim.Native.Nat.{ℕ, ◌+◌, ◌-◌, ◌*◌, ◌/◌, ◌%◌, ◌^◌}
use native.Mathlib.Omega.{arith}
use lib.ListN.{length, get_or}
use Rattle.cubes.specs.declared.table.Table.{Table}
use Rattle.wires.specs.Terms.{Setting, Excuses, Excused}
use Rattle.wires.proofs.Digits.{low_digit}
use Rattle.cubes.proofs.Cubed.{used}
use Rattle.faults.specs.Table.{bit, Turned, Waived, Struck}
use Rattle.faults.proofs.Boards.{first_more}

-- a table t of n wires that has 1 where it was so in the words s, and where one of the first k excuses excuses the combination
pub record Waives (n : ℕ) (excuses : List ℕ) (k : ℕ) (s : List ℕ) (t : Table) : Type 0 where
  pub wires : t.wires ≡ n
  pub tells : (a x y : ℕ) → Setting n a x y → (bit t.words a x y ≡ 1) ↔ ((bit s a x y ≡ 1) ⊎ Excused n excuses k a)

pub none-struck : (excuses : List ℕ) (s : Table) → length excuses ≡ 0 → Struck excuses s s
none-struck excuses s e = record { wires = refl; tells = λ a x y b. (λ h. (h, λ k. omega (arith, k.1)), λ h. h.0) }

pub none-waived : (excuses : List ℕ) (s : Table) → Waives s.wires excuses 0 s.words s
none-waived excuses s = record { wires = refl; tells = λ a x y b. (inl, ⊎_elim (λ h. h) (λ k. absurd (omega (arith, k.1)))) }

module _ (n : ℕ) (excuses s : List ℕ) where
  pub one-waived : (k : ℕ) (t u : Table) → Waives n excuses k s t → Waived (get_or excuses k 0) t u → Waives n excuses (k + 1) s u
  one-waived k t u o m = record {
    wires = m.wires ∙ o.wires;
    tells = λ a x y b.
        let first = first_more (λ (j : ℕ). Excuses n a (get_or excuses j 0)) k in
        let more = rw o.wires at m.tells in (
          λ h.
              ⊎_elim (λ g. ⊎_elim inl (λ f. inr (first.1 (inl f))) ((o.tells a x y b).0 g)) (λ g. inr (first.1 (inr g)))
              ((more a x y b).0 h),
          λ h. (more a x y b).1
              (⊎_elim (λ z. inl ((o.tells a x y b).1 (inl z)))
              (λ g. ⊎_elim (λ f. inl ((o.tells a x y b).1 (inr f))) inr (first.0 g))
              h),
        );
  }

either : (t : List ℕ) (a x y : ℕ) → (bit t a x y ≡ 0) ⊎ (bit t a x y ≡ 1)
either t a x y = low_digit (get_or t (a / 16) 0 / 2 ^ (4 * (a % 16) + 2 * x + y))

turned_bit : (n : ℕ) (s t : List ℕ) → Turned (4 * 2 ^ (n - 6)) s t → (a x y : ℕ) → Setting n a x y → bit t a x y ≡ 1 - bit s a x y
turned_bit n s t f a x y b = f.each (a / 16) (4 * (a % 16) + 2 * x + y) (used n a b.below) (omega (arith, b.cell_a, b.cell_b))

-- s turned is t, the excuses make u of it, and u turned is v
module _ (n : ℕ) (excuses s t : List ℕ) (u : Table) (v : List ℕ) (f : Turned (4 * 2 ^ (n - 6)) s t) (m : Waives n excuses (length excuses) t u)
    (g : Turned (4 * 2 ^ (n - 6)) u.words v) (a x y : ℕ) (b : Setting n a x y) where
  there : bit v a x y ≡ 1 → (bit s a x y ≡ 1) × (Excused n excuses (length excuses) a → ⊥)
  there h = (
    ⊎_elim (λ z. absurd (zero_in ((m.tells a x y b).1 (inl (omega (arith, z, turned_bit n s t f a x y b)))))) (λ o. o) (either s a x y),
    λ q. zero_in ((m.tells a x y b).1 (inr q)),
  )
    where
      zero_in : bit u.words a x y ≡ 1 → ⊥
      zero_in o = omega (arith, h, o, turned_bit n u.words v g a x y b)

  back : (bit s a x y ≡ 1) × (Excused n excuses (length excuses) a → ⊥) → bit v a x y ≡ 1
  back h =
      ⊎_elim (λ z. omega (arith, z, turned_bit n u.words v g a x y b))
      (λ o. ⊎_elim (λ z. absurd (omega (arith, z, h.0, turned_bit n s t f a x y b))) (λ q. absurd (h.1 q)) ((m.tells a x y b).0 o))
      (either u.words a x y)

-- the same, where the first `end` words are turned, those that the board uses
pub struck : (end k : ℕ) (excuses : List ℕ) (s : Table) (t : List ℕ) (u : Table) (v : List ℕ) → end ≡ 4 * 2 ^ (s.wires - 6) → k ≡ length excuses
    → Turned end s.words t → Waives s.wires excuses k t u → Turned end u.words v
    → (a x y : ℕ) → Setting s.wires a x y → (bit v a x y ≡ 1) ↔ ((bit s.words a x y ≡ 1) × (Excused s.wires excuses (length excuses) a → ⊥))
struck end k excuses s t u v e same f m g a x y b =
    let first = rw e at f in
    let second = rw e at g in
    let waives = rw same at m in
    (there s.wires excuses s.words t u v first waives second a x y b, back s.wires excuses s.words t u v first waives second a x y b)
