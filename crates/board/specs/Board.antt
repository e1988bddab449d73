-- A board without its bits: how many rows each cell has, which row a combination shows to each cell, and where some rule is broken, and which.
--     Board       the numbers and the four functions
--     Shows       each combination shows a row that the cell has
--     row, value, opposite   claim 2r says that row r holds 0, claim 2r+1 that it holds 1
-- Assumes nothing.
use Rattle.std.specs.Prelude.{Bool, ℕ, ◌+◌, ◌*◌, ◌-◌, ◌/◌, ◌%◌, ◌<◌}

pub record Board : Type 0 where
  -- rows of A come first, then rows of B
  pub rows_a : ℕ
  pub rows_b : ℕ
  -- combinations are the numbers below this
  pub combinations : ℕ
  -- the row that a combination shows to A, and to B (counted from 0 in each cell)
  pub show_a : ℕ → ℕ
  pub show_b : ℕ → ℕ
  -- combination, value of A, value of B: some rule is broken there
  pub breaks : ℕ → ℕ → ℕ → Bool
  -- and there, the number of the lowest such rule, from 0
  pub rule : ℕ → ℕ → ℕ → ℕ

-- R, the rows of both cells
abbrev pub rows : Board → ℕ
rows B = B.rows_a + B.rows_b

-- the number of the row of B that a combination shows, among the rows of both cells
abbrev pub at_b : Board → ℕ → ℕ
at_b B a = B.rows_a + B.show_b a

pub record Shows (B : Board) : Type 0 where
  pub in_a : (a : ℕ) → a < B.combinations → B.show_a a < B.rows_a
  pub in_b : (a : ℕ) → a < B.combinations → B.show_b a < B.rows_b

-- a claim's row, and the value that it says the row holds
abbrev pub row : ℕ → ℕ
row L = L / 2

abbrev pub value : ℕ → ℕ
value L = L % 2

-- the claim that row r holds v
abbrev pub claim : ℕ → ℕ → ℕ
claim r v = 2 * r + v

-- the opposite claim differs in the last bit
abbrev pub opposite : ℕ → ℕ
opposite L = claim (row L) (1 - value L)
