-- A number of things of one kind, one after another: the bits of a table, or the entries of a walk.
--     Many           many n is one, n times
--     bits-many, entries-many        the two kinds
--     many-go, many-stop, many-done      a turn of a loop over them, of which only the place is told, and its end
--     many-length    as many as were asked for
-- Assumes nothing.
use mathlib.Core.Path.{◌≡◌, refl, sym, ap, ◌∙◌}
use mathlib.Core.List.{List, [], ◌∷◌}
use Prim.Native.Nat.{ℕ, zero, suc, ◌≤◌, ◌<◌}
use native.Mathlib.Nat.{not-suc-le-zero}
use lib.ListN.{length}
use Rattle.steps.specs.declared.Refusal.{Refusal}
use Rattle.steps.specs.Step.{got, refused, next, Reading}
use Rattle.steps.proofs.Entries.{assoc, next-inv, got-inj}
use Rattle.answer.specs.AnswerSheet.{bit, bits, entry, entries}

pub record Many {A : Type 0} (one : Reading A) (many : ℕ → Reading (List A)) : Type 0 where
  pub none : (s : List ℕ) (at : ℕ) → many 0 s at ≡ got [] at
  pub more : (n : ℕ) (s : List ℕ) (at : ℕ) → many (suc n) s at ≡ next (one s at) (λ x m. next (many n s m) (λ xs q. got (x ∷ xs) q))

pub bits-many : Many bit bits
unfolding bits
bits-many = record { none = λ s at. refl; more = λ n s at. refl }

pub entries-many : (claims combinations : ℕ) → Many (entry claims combinations) (λ n. entries n claims combinations)
unfolding entries
entries-many claims combinations = record { none = λ s at. refl; more = λ n s at. refl }

module _ {A : Type 0} {one : Reading A} {many : ℕ → Reading (List A)} (is : Many one many) where
  -- `left` of n are left, and the first of them was found, or refused
  module _ (n : ℕ) (s : List ℕ) (at : ℕ) where
    pub many-go : (left rest : ℕ) (x : A) (a : ℕ) → left ≡ suc rest → one s at ≡ got x a
        → next (many left s at) (λ xs q. got n q) ≡ next (many rest s a) (λ xs q. got n q)
    many-go left rest x a l h =
        rw (l, is.more rest s at, h)
        (assoc (many rest s a) (λ xs q. got (x ∷ xs) q) (λ xs q. got n q))

    pub many-stop : (left : ℕ) (w : Refusal) → 0 < left → one s at ≡ refused w → next (many left s at) (λ xs q. got n q) ≡ refused w
    many-stop zero w l h = absurd (not-suc-le-zero l)
    many-stop (suc m) w l h = rw (is.more m s at, h)

    pub many-done : (left : ℕ) → left ≤ 0 → next (many left s at) (λ xs q. got n q) ≡ got n at
    many-done zero l = rw (is.none s at)
    many-done (suc m) l = absurd (not-suc-le-zero l)

  pub many-length : (n : ℕ) (s : List ℕ) (at : ℕ) (xs : List A) (m : ℕ) → many n s at ≡ got xs m → length xs ≡ n
  many-length zero s at xs m h = ap length (sym (got-inj [] xs at m (sym (is.none s at) ∙ h)))
  many-length (suc n) s at xs m h =
      let i = next-inv (one s at) _ xs m (sym (is.more n s at) ∙ h) in
      let j = next-inv (many n s i.1) _ xs m i.3 in
      ap length (sym (got-inj _ xs _ m j.3)) ∙ ap suc (many-length n s i.1 j.0 j.1 j.2)
