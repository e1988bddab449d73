-- Steps come in pairs, and truth is carried along every step exactly where the tables fit.
-- Assumes nothing.
use mathlib.Core.Path.{◌≡◌, refl, ◌∙◌, sym, ap}
use mathlib.Core.Bool.{Bool, true, false, Bool-discrete}
use mathlib.Core.List.{List}
use mathlib.Core.Logic.{◌⊎◌, inl, inr, ◌↔◌}
use Prim.Native.Nat.{ℕ, ◌-◌, ◌<◌}
use native.Mathlib.Decide.{map_dec}
use native.Mathlib.Omega.{arith}
use Rattle.board.specs.Board.{Board, Shows, rows, at_b, row, value, claim, opposite}
use Rattle.board.specs.Tables.{held, True, Tables, Fits}
use Rattle.board.specs.Walk.{Carries, Step, from_a, from_b}
use Rattle.board.specs.Tests.{stepb}
use Rattle.board.proofs.Tests.{stepb-iff}
use Rattle.board.proofs.Claims.{value-bit, row-opposite, value-opposite, row-claim, value-claim, flip-opposite, bit-cases}

module _ (B : Board) where
  -- with L true and M false is with (opposite M) true and (opposite L) false
  pub contraposition : {L M a : ℕ} → Step B L M a → Step B (opposite M) (opposite L) a
  contraposition {L} {M} {a} (from_a h l m b) =
      from_b h (row-opposite M ∙ m) (row-opposite L ∙ l) (rw (flip-opposite L, value-opposite M) b)
  contraposition {L} {M} {a} (from_b h l m b) =
      from_a h (row-opposite M ∙ m) (row-opposite L ∙ l) (rw (flip-opposite L, value-opposite M) b)

  module _ (ok : Shows B) where
    -- a step leads from a row of the board to a row of the board
    pub step_from : {L M a : ℕ} → Step B L M a → row L < rows B
    step_from {L} {M} {a} (from_a h l m b) = omega (arith, ok.in_a a h)
    step_from {L} {M} {a} (from_b h l m b) = omega (arith, ok.in_b a h)

    pub step-to : {L M a : ℕ} → Step B L M a → row M < rows B
    step-to {L} {M} {a} (from_a h l m b) = omega (arith, ok.in_b a h)
    step-to {L} {M} {a} (from_b h l m b) = omega (arith, ok.in_a a h)

  pub dec-step : (L M a : ℕ) → Dec (Step B L M a)
  dec-step L M a = map_dec (stepb-iff B L M a).0 (stepb-iff B L M a).1 (Bool-discrete (stepb B L M a) true)

  pub step-combination : {L M a : ℕ} → Step B L M a → a < B.combinations
  step-combination (from_a h l m b) = h
  step-combination (from_b h l m b) = h

  -- a rule that is broken at a with x for A and y for B is a step: if A's row holds x, B's row holds the other bit than y
  pub broken-step : (a x y : ℕ) → a < B.combinations → x < 2 → y < 2 → B.breaks a x y ≡ true → Step B (claim (B.show_a a) x) (claim (at_b B a) (1 - y)) a
  broken-step a x y h hx hy e =
      let vx : value (claim (B.show_a a) x) ≡ x = omega arith in
      let vy : 1 - value (claim (at_b B a) (1 - y)) ≡ y = omega arith in
      from_a h (row-claim (B.show_a a) x hx) (row-claim (at_b B a) (1 - y) (omega arith)) (rw (vx, vy) e)

  module _ (ok : Shows B) (T : List ℕ) (tables : Tables B T) where
    fits-carries : Fits B T → Carries B T
    fits-carries fits L M a t s = go s (bit-cases (held T (row M)) (value M) (tables.bits (row M) (step-to ok s)) (value-bit M))
      where
        go : Step B L M a → (held T (row M) ≡ value M) ⊎ (held T (row M) ≡ 1 - value M) → True T M
        go (from_a h l m b) (inl e) = e
        go (from_a h l m b) (inr e) = cc (fits a h)
        go (from_b h l m b) (inl e) = e
        go (from_b h l m b) (inr e) = cc (fits a h)

    -- were a rule broken at a, the step from what A's row holds would make B's row hold the other bit
    carries-fits : Carries B T → Fits B T
    carries-fits carries a h = go (B.breaks a x y) refl
      where
        x : ℕ
        x = held T (B.show_a a)

        y : ℕ
        y = held T (at_b B a)

        hx : x < 2
        hx = tables.bits (B.show_a a) (omega (arith, ok.in_a a h))

        hy : y < 2
        hy = tables.bits (at_b B a) (omega (arith, ok.in_b a h))

        L : ℕ
        L = claim (B.show_a a) x

        M : ℕ
        M = claim (at_b B a) (1 - y)

        true-L : True T L
        true-L = ap (held T) (row-claim (B.show_a a) x hx) ∙ sym (value-claim (B.show_a a) x hx)

        clash : True T M → ⊥
        clash t = omega (arith, sym (ap (held T) (row-claim (at_b B a) (1 - y) (omega arith))) ∙ t)

        go : (b : Bool) → B.breaks a x y ≡ b → B.breaks a x y ≡ false
        go false e = e
        go true e = absurd (clash (carries L M a true-L (broken-step a x y h hx hy e)))

    -- a pair fits exactly if it carries truth along every step
    pub fits-iff-carries : Fits B T ↔ Carries B T
    fits-iff-carries = (fits-carries, carries-fits)
