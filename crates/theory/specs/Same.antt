-- Two boards that no combination tells apart: the same numbers, the same rows shown, and a rule broken at the same bits.
-- Assumes nothing.
use Rattle.std.specs.Prelude.{◌≡◌, ℕ, ◌<◌}
use Rattle.board.specs.Board.{Board}

pub record Same (P Q : Board) : Type 0 where
  pub rows_a : P.rows_a ≡ Q.rows_a
  pub rows_b : P.rows_b ≡ Q.rows_b
  pub combinations : P.combinations ≡ Q.combinations
  pub show_a : (a : ℕ) → a < P.combinations → P.show_a a ≡ Q.show_a a
  pub show_b : (a : ℕ) → a < P.combinations → P.show_b a ≡ Q.show_b a
  pub breaks : (a x y : ℕ) → a < P.combinations → x < 2 → y < 2 → P.breaks a x y ≡ Q.breaks a x y
