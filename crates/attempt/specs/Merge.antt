-- What the state holds once the marked claims are settled. Assumes nothing: these are definitions.
use Rattle.std.specs.Prelude.{◌≡◌, cond, List, ℕ, ◌<◌, eqb, length, get_or}
use Rattle.board.specs.Board.{claim}

-- what a row holds, from the marks of its 0 claim and of its 1 claim, and from what it held
abbrev pub settled : ℕ → ℕ → ℕ → ℕ
settled x y z = cond (eqb x 1) 0 (cond (eqb y 1) 1 z)

pub record MergedBy (m s s' : List ℕ) : Type 0 where
  pub long : length s' ≡ length s
  pub rows : (r : ℕ) → r < length s → get_or s' r 0 ≡ settled (get_or m (claim r 0) 0) (get_or m (claim r 1) 0) (get_or s r 0)
