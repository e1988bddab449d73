-- Board Q asks no more than board P: each cell of Q sees all that the same cell of P sees, and a rule that is broken in Q is broken in P.
--     AsksNoMore   with the row of P's cell that is shown by the same wires as a row of Q's cell
--     Widened      in each row of Q's cell, the value of P's row
-- Assumes nothing.
use Rattle.std.specs.Prelude.{◌≡◌, true, List, ℕ, ◌+◌, ◌<◌, length}
use Rattle.board.specs.Board.{Board, rows}
use Rattle.board.specs.Tables.{held}

module _ (P Q : Board) (narrow_a narrow_b : ℕ → ℕ) where
  pub record AsksNoMore : Type 0 where
    pub combinations : P.combinations ≡ Q.combinations
    -- a row of Q's cell has a row of P's cell
    pub in_a : (r : ℕ) → r < Q.rows_a → narrow_a r < P.rows_a
    pub in_b : (r : ℕ) → r < Q.rows_b → narrow_b r < P.rows_b
    -- which each combination that shows the one shows
    pub shows_a : (a : ℕ) → a < Q.combinations → P.show_a a ≡ narrow_a (Q.show_a a)
    pub shows_b : (a : ℕ) → a < Q.combinations → P.show_b a ≡ narrow_b (Q.show_b a)
    pub breaks : (a x y : ℕ) → a < Q.combinations → Q.breaks a x y ≡ true → P.breaks a x y ≡ true

  pub record Widened (T U : List ℕ) : Type 0 where
    pub long : length U ≡ rows Q
    pub of_a : (r : ℕ) → r < Q.rows_a → held U r ≡ held T (narrow_a r)
    pub of_b : (r : ℕ) → r < Q.rows_b → held U (Q.rows_a + r) ≡ held T (P.rows_a + narrow_b r)
