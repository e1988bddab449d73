-- Table pairs: a list of bits, a row each, A's rows first. When a pair fits, and which fitting pair is the first.
-- Assumes nothing.
use Rattle.std.specs.Prelude.{◌≡◌, false, List, ℕ, ◌<◌, ◌≤◌, length, get_or}
use Rattle.board.specs.Board.{Board, rows, at_b, row, value}

-- what row r holds
abbrev pub held : List ℕ → ℕ → ℕ
held T r = get_or T r 0

-- the claim holds of the tables
abbrev pub True : List ℕ → ℕ → Type 0
True T L = held T (row L) ≡ value L

module _ (B : Board) where
  -- a bit for each row
  pub record Tables (T : List ℕ) : Type 0 where
    pub long : length T ≡ rows B
    pub bits : (r : ℕ) → r < rows B → held T r < 2

  -- for every combination, with A and B set to the rows that it shows, no rule is broken
  abbrev pub Fits : List ℕ → Type 0
  Fits T = (a : ℕ) → a < B.combinations → B.breaks a (held T (B.show_a a)) (held T (at_b B a)) ≡ false

  -- T is U or comes before it: at the first row where they differ, T holds less
  abbrev pub NotAfter : List ℕ → List ℕ → Type 0
  NotAfter T U = (r : ℕ) → r < rows B → ((i : ℕ) → i < r → held T i ≡ held U i) → held T r ≤ held U r

  -- a fitting pair
  pub record Pair (T : List ℕ) : Type 0 where
    pub tables : Tables T
    pub fits : Fits T

  -- the first fitting pair: compare A's rows from row 0, then B's; 0 comes before 1
  pub record First (T : List ℕ) : Type 0 where
    pub pair : Pair T
    pub least : (U : List ℕ) → Pair U → NotAfter T U
