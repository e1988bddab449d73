-- The definitions of fits, step and stands as tests that compute, and the lowest number that passes a test.
-- Assumes nothing.
use Rattle.std.specs.Prelude.{Bool, true, false, not, ◌&&◌, ◌||◌, List, [], ◌∷◌, ℕ, zero, suc, ◌+◌, ◌-◌, eqb, ltb}
use Rattle.steps.specs.Step.{pick}
use Rattle.board.specs.Board.{Board, at_b, row, value, opposite}
use Rattle.board.specs.Tables.{held}
use Rattle.answer.specs.Answer.{Entry}
use Rattle.board.specs.Walk.{start}

-- each number below n passes
unfoldable pub all_below : (ℕ → Bool) → ℕ → Bool
all_below p zero = true
all_below p (suc n) = all_below p n && p n

-- the first of k numbers from i on that passes, or the number after them
unfoldable pub first_from : (ℕ → Bool) → (i k : ℕ) → ℕ
first_from p i zero = i
first_from p i (suc k) = pick (p i) i (first_from p (i + 1) k)

-- the lowest number below n that passes, or n
abbrev pub lowest : (ℕ → Bool) → ℕ → ℕ
lowest p n = first_from p 0 n

unfoldable pub amongb : ℕ → List Entry → Bool
amongb c [] = false
amongb c (e ∷ es) = eqb c e.says || amongb c es

module _ (B : Board) where
  unfoldable pub fitsb : List ℕ → Bool
  fitsb T = all_below (λ a. not (B.breaks a (held T (B.show_a a)) (held T (at_b B a)))) B.combinations

  -- a step from a claim of A, and from a claim of B
  unfoldable pub from_a_b : ℕ → ℕ → ℕ → Bool
  from_a_b L M a = eqb (row L) (B.show_a a) && (eqb (row M) (at_b B a) && B.breaks a (value L) (1 - value M))

  unfoldable pub from_b_b : ℕ → ℕ → ℕ → Bool
  from_b_b L M a = eqb (row L) (at_b B a) && (eqb (row M) (B.show_a a) && B.breaks a (1 - value M) (value L))

  unfoldable pub stepb : ℕ → ℕ → ℕ → Bool
  stepb L M a = ltb a B.combinations && (from_a_b L M a || from_b_b L M a)

  unfoldable pub goesb : List Entry → ℕ → Bool
  goesb [] M = true
  goesb (e ∷ es) M = stepb e.says (start es M) e.by && goesb es M

  unfoldable pub standsb : List Entry → Bool
  standsb [] = false
  standsb (e ∷ es) = goesb (e ∷ es) e.says && amongb (opposite e.says) (e ∷ es)
