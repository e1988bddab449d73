-- The tests decide what they are named after.
-- Assumes nothing.
use mathlib.Core.Path.{◌≡◌, refl}
use mathlib.Core.Bool.{Bool, true, false, not, ◌&&◌, ◌||◌, false≢true, and-eq-true_iff}
use mathlib.Core.List.{List, [], ◌∷◌}
use mathlib.Core.Logic.{◌⊎◌, ◌↔◌, inl, inr}
use Prim.Native.Nat.{ℕ, ◌-◌, ◌<◌}
use lib.Dec.{eqb, ltb}
use borrow.Author.Tests.{not-true}
use Rattle.std.proofs.lemmas.Bool.{not_from_false}
use Rattle.std.proofs.lemmas.Bool.Decides.{Decides-like, Decides-and, Decides-or, Decides-eqb, Decides-ltb, Decides-below_and}
use Rattle.board.specs.Board.{Board, at_b, row, value, opposite}
use Rattle.board.specs.Tables.{held, Fits}
use Rattle.answer.specs.Answer.{Entry}
use Rattle.board.specs.Walk.{start, Step, from_a, from_b, Among, Goes, Stands}
use Rattle.board.specs.Tests.{all_below, amongb, fitsb, from_a_b, from_b_b, stepb, goesb, standsb}

pub and_both : {a b : Bool} → a ≡ true → b ≡ true → a && b ≡ true
and_both {a} {b} p q = (and-eq-true_iff a b).1 (p, q)

-- std's laws read a test of one number more from its other side
and_turned : (a b : Bool) → a && b ≡ b && a
and_turned true true = refl
and_turned true false = refl
and_turned false true = refl
and_turned false false = refl

-- each number below n passes, where passing is the fact P
pub below-iff : (p : ℕ → Bool) (P : ℕ → Type 0) → ((i : ℕ) → (p i ≡ true) ↔ P i) → (n : ℕ) → (all_below p n ≡ true) ↔ ((i : ℕ) → i < n → P i)
unfolding all_below
below-iff p P each n = Decides-below_and p P (all_below p) each refl (λ k. and_turned (all_below p k) (p k)) n

pub amongb-iff : (c : ℕ) (es : List Entry) → (amongb c es ≡ true) ↔ Among c es
unfolding amongb
amongb-iff c [] = (λ e. false≢true e, λ m. absurd m)
amongb-iff c (x ∷ es) = Decides-or (eqb c x.says) (amongb c es) (Decides-eqb c x.says) (amongb-iff c es)

module _ (B : Board) where
  pub fitsb-iff : (T : List ℕ) → (fitsb B T ≡ true) ↔ Fits B T
  unfolding fitsb
  fitsb-iff T =
      below-iff (λ a. not (B.breaks a (held T (B.show_a a)) (held T (at_b B a)))) (λ a. B.breaks a (held T (B.show_a a)) (held T (at_b B a)) ≡ false)
      (λ a. (not-true _, not_from_false _)) B.combinations

  pub stepb-iff : (L M a : ℕ) → (stepb B L M a ≡ true) ↔ Step B L M a
  unfolding stepb from_a_b from_b_b
  stepb-iff L M a =
      Decides-like (stepb B L M a) to from
      (Decides-and (ltb a B.combinations) (from_a_b B L M a || from_b_b B L M a) (Decides-ltb a B.combinations)
      (Decides-or (from_a_b B L M a) (from_b_b B L M a)
      (both (row L) (B.show_a a) (row M) (at_b B a) (B.breaks a (value L) (1 - value M)))
      (both (row L) (at_b B a) (row M) (B.show_a a) (B.breaks a (1 - value M) (value L)))))
    where
      both : (l m k n : ℕ) (b : Bool) → (eqb l m && (eqb k n && b) ≡ true) ↔ ((l ≡ m) × ((k ≡ n) × (b ≡ true)))
      both l m k n b = Decides-and (eqb l m) (eqb k n && b) (Decides-eqb l m) (Decides-and (eqb k n) b (Decides-eqb k n) (λ e. e, λ e. e))

      to :
          (a < B.combinations) × (((row L ≡ B.show_a a) × ((row M ≡ at_b B a) × (B.breaks a (value L) (1 - value M) ≡ true)))
          ⊎ ((row L ≡ at_b B a) × ((row M ≡ B.show_a a) × (B.breaks a (1 - value M) (value L) ≡ true)))) →
          Step B L M a
      to (l, inl (p, (q, e))) = from_a l p q e
      to (l, inr (p, (q, e))) = from_b l p q e

      from :
          Step B L M a →
          (a < B.combinations) × (((row L ≡ B.show_a a) × ((row M ≡ at_b B a) × (B.breaks a (value L) (1 - value M) ≡ true)))
          ⊎ ((row L ≡ at_b B a) × ((row M ≡ B.show_a a) × (B.breaks a (1 - value M) (value L) ≡ true))))
      from (from_a l p q e) = (l, inl (p, (q, e)))
      from (from_b l p q e) = (l, inr (p, (q, e)))

  goesb-iff : (es : List Entry) (M : ℕ) → (goesb B es M ≡ true) ↔ Goes B es M
  unfolding goesb
  goesb-iff [] M = (λ e. tt, λ g. refl)
  goesb-iff (x ∷ es) M = Decides-and (stepb B x.says (start es M) x.by) (goesb B es M) (stepb-iff x.says (start es M) x.by) (goesb-iff es M)

  pub standsb-iff : (w : List Entry) → (standsb B w ≡ true) ↔ Stands B w
  unfolding standsb
  standsb-iff [] = (λ e. false≢true e, λ s. absurd s)
  standsb-iff (x ∷ es) = Decides-and (goesb B (x ∷ es) x.says) (amongb (opposite x.says) (x ∷ es)) (goesb-iff (x ∷ es) x.says) (amongb-iff (opposite x.says) (x ∷ es))
