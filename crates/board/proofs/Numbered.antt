-- A walk by its entries' numbers: what a loop over the entries tests is that the walk stands.
-- Assumes nothing.
use mathlib.Core.Path.{◌≡◌, sym, subst}
use mathlib.Core.List.{List, [], ◌∷◌}
use mathlib.Core.Logic.{◌↔◌, inl, inr, by_cases}
use Prim.Native.Nat.{ℕ, zero, suc, ◌-◌, ◌<◌, ◌≤◌}
use native.Mathlib.Decide.{dec_lt}
use native.Mathlib.Omega.{arith}
use lib.ListN.{length, drop, drop_of_length-le}
use lib.Seq.{drop-cons}
use Rattle.board.specs.Board.{Board, opposite}
use Rattle.answer.specs.Answer.{Entry}
use Rattle.board.specs.Walk.{entry, Step, Among, start, Goes, Stands, StandsAt}

-- the claim behind entry i, in a list of entries that leads to M
abbrev pub after : List Entry → ℕ → ℕ → ℕ
after es M i = start (drop (suc i) es) M

pub after_next : (es : List Entry) (M i : ℕ) → suc i < length es → after es M i ≡ (entry es (suc i)).says
after_next es M i h = rw (drop-cons es (suc i) (record { says = 0; by = 0 }) h)

pub after_last : (es : List Entry) (M i : ℕ) → length es ≤ suc i → after es M i ≡ M
after_last es M i h = rw (drop_of_length-le es h)

pub among-at : (c : ℕ) (es : List Entry) (i : ℕ) → i < length es → (entry es i).says ≡ c → Among c es
among-at c [] i h e = absurd (omega arith)
among-at c (x ∷ es) zero h e = inl (sym e)
among-at c (x ∷ es) (suc i) h e = inr (among-at c es i (omega arith) e)

pub at-among : (c : ℕ) (es : List Entry) → Among c es → (i : ℕ) × (i < length es) × ((entry es i).says ≡ c)
at-among c [] m = absurd m
at-among c (x ∷ es) (inl e) = (0, omega arith, sym e)
at-among c (x ∷ es) (inr m) = let t = at-among c es m in (suc t.0, omega (arith, t.1), t.2)

module _ (B : Board) where
  pub goes_at : (es : List Entry) (M : ℕ) → Goes B es M → (i : ℕ) → i < length es → Step B (entry es i).says (after es M i) (entry es i).by
  goes_at [] M g i h = absurd (omega arith)
  goes_at (e ∷ es) M g zero h = g.0
  goes_at (e ∷ es) M g (suc i) h = goes_at es M g.1 i (omega arith)

  pub at_goes : (es : List Entry) (M : ℕ) → ((i : ℕ) → i < length es → Step B (entry es i).says (after es M i) (entry es i).by) → Goes B es M
  at_goes [] M f = tt
  at_goes (e ∷ es) M f = (f 0 (omega arith), at_goes es M (λ i h. f (suc i) (omega arith)))

  pub stands_at : (w : List Entry) → Stands B w → StandsAt B w
  stands_at [] s = absurd s
  stands_at (e ∷ es) s =
      record {
        some = omega arith;
        onward = λ i h. subst (λ (M : ℕ). Step B (entry (e ∷ es) i).says M (entry (e ∷ es) i).by) (after_next (e ∷ es) e.says i h) (goes_at (e ∷ es) e.says s.0 i (omega arith));
        back =
            let k = length (e ∷ es) - 1 in
            subst (λ (M : ℕ). Step B (entry (e ∷ es) k).says M (entry (e ∷ es) k).by) (after_last (e ∷ es) e.says k (omega arith)) (goes_at (e ∷ es) e.says s.0 k (omega arith));
        meets = at-among (opposite e.says) (e ∷ es) s.1;
      }

  pub at-stands : (w : List Entry) → StandsAt B w → Stands B w
  at-stands [] s = absurd (omega (arith, s.some))
  at-stands (e ∷ es) s = (at_goes (e ∷ es) e.says step, among-at (opposite e.says) (e ∷ es) s.meets.0 s.meets.1 s.meets.2)
    where
      step : (i : ℕ) → i < length (e ∷ es) → Step B (entry (e ∷ es) i).says (after (e ∷ es) e.says i) (entry (e ∷ es) i).by
      step i h =
          by_cases (dec_lt (suc i) (length (e ∷ es))) (λ l. rw (after_next (e ∷ es) e.says i l) (s.onward i l))
          (λ ge. let k : i ≡ length (e ∷ es) - 1 = omega arith in rw (after_last (e ∷ es) e.says i (omega arith), k) s.back)

  pub stands-iff : (w : List Entry) → Stands B w ↔ StandsAt B w
  stands-iff w = (stands_at w, at-stands w)
