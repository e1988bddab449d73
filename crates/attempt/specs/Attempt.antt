-- What one spread from a claim of the next row asks and leaves. The state S has a 0, a 1 or a 2 for each row, where 2 says that the row is not settled yet; W is
-- scratch for the bytes of a walk.
--     Trying                   row r is next and is tried with bit v
--     Half                     half of a walk is written, and the state stays
--     Attempts, Attempted      one spread from claim c of the next row: it settles rows, or half of a walk is written
-- Assumes nothing: these are definitions.
use Rattle.std.specs.Prelude.{◌≡◌, List, ◌++◌, ℕ, suc, ◌+◌, ◌*◌, ◌<◌, ◌≤◌, length, take, drop, Option, MatchOption}
use Rattle.answer.specs.Answer.{Entry}
use Rattle.answer.specs.Written.{fours}
use Rattle.board.specs.Board.{Board, rows, row, value, claim}
use Rattle.board.specs.Tables.{held}
use Rattle.board.specs.Walk.{Reaches}
use Rattle.theory.specs.Solve.{Settling}
use Rattle.grid.specs.Grid.{claims, grid_board}
use Rattle.grid.specs.Grid.{Grid}
use Rattle.scan.specs.Reach.{Store, Room}
use Rattle.spread.specs.Walk.{HalfWalk}

-- row r is next, is not settled, and is tried with bit v; with 1 only where its 0 claim reaches its 1 claim
pub record Trying (B : Board) (r v : ℕ) (S : List ℕ) : Type 0 where
  pub settling : Settling B S r
  pub row : r < rows B
  pub unsettled : held S r ≡ 2
  pub bit : v < 2
  pub forced : v ≡ 1 → Reaches B (claim r 0) (claim r 1)

pub record Attempts (g : Grid) (s : Store) (c : ℕ) (S W : List ℕ) (at : ℕ) : Type 0 where
  pub room : Room g s
  pub trying : Trying (grid_board g) (row c) (value c) S
  pub space : at + 4 * claims g ≤ length W + 4

-- the state stays, and the entries of half of a walk stand in the scratch from `at` to `end`
pub record Half (g : Grid) (c : ℕ) (S W : List ℕ) (at : ℕ) (S' W' : List ℕ) (end : ℕ) : Type 0 where
  pub same : S' ≡ S
  pub entries : List Entry
  pub half : HalfWalk g c entries
  pub end_is : end ≡ at + 4 * length entries
  pub bytes : W' ≡ take at W ++ fours entries ++ drop end W

-- `None` where the rows are settled, else the place after half of a walk
pub record Attempted (g : Grid) (c : ℕ) (S W : List ℕ) (at : ℕ) (t : Store) (S' W' : List ℕ) (end : Option ℕ) : Type 0 where
  pub room : Room g t
  pub long_walk : length W' ≡ length W
  pub ends : MatchOption end (Settling (grid_board g) S' (suc (row c))) (Half g c S W at S' W')
