-- What the search asks and leaves, row by row. The state S has a 0, a 1 or a 2 for each row, where 2 says that the row is not settled yet; W is scratch for the
-- bytes of a walk.
--     Settles, Settled         the work on row r: it is settled, or a walk is written
--     Searches, Searched       the work on all rows: the first pair, or a walk
-- Assumes nothing: these are definitions.
use Rattle.std.specs.Prelude.{◌≡◌, List, ℕ, suc, ◌+◌, ◌*◌, ◌-◌, ◌<◌, ◌≤◌, length, take, Option, MatchOption}
use Rattle.answer.specs.Answer.{Entry}
use Rattle.answer.specs.Written.{fours, IsWalk}
use Rattle.board.specs.Board.{rows}
use Rattle.board.specs.Tables.{held, First}
use Rattle.board.specs.Walk.{Stands}
use Rattle.theory.specs.Solve.{Settling}
use Rattle.grid.specs.Grid.{claims, grid_board}
use Rattle.grid.specs.Grid.{Grid}
use Rattle.scan.specs.Reach.{Store, Room}

pub record Settles (g : Grid) (s : Store) (r : ℕ) (S W : List ℕ) : Type 0 where
  pub room : Room g s
  pub settling : Settling (grid_board g) S r
  pub row : r < rows (grid_board g)
  pub space : 8 * claims g ≤ length W + 8

-- the entries of a walk that stands are at the front of the scratch
pub record WalkWritten (g : Grid) (W : List ℕ) (end : ℕ) : Type 0 where
  pub entries : List Entry
  pub stands : Stands (grid_board g) entries
  pub walks : IsWalk (claims g) g.shape.combinations entries
  pub few : length entries ≤ 2 * claims g - 2
  pub end_is : end ≡ 4 * length entries
  pub within : end ≤ length W
  pub bytes : take end W ≡ fours entries

-- `None` where the row is settled, else the length of a walk
pub record Settled (g : Grid) (r : ℕ) (W : List ℕ) (t : Store) (S' W' : List ℕ) (end : Option ℕ) : Type 0 where
  pub room : Room g t
  pub long_walk : length W' ≡ length W
  pub ends : MatchOption end (Settling (grid_board g) S' (suc r)) (WalkWritten g W')

-- what `search` asks: every row of the state is unsettled, and there is scratch for the longest walk
pub record Searches (g : Grid) (S W : List ℕ) : Type 0 where
  pub long : length S ≡ rows (grid_board g)
  pub unsettled : (r : ℕ) → r < rows (grid_board g) → held S r ≡ 2
  pub space : 8 * claims g ≤ length W + 8

-- `None` where the state is the first pair, else the length of a walk
pub record Searched (g : Grid) (W S' W' : List ℕ) (end : Option ℕ) : Type 0 where
  pub long_walk : length W' ≡ length W
  pub ends : MatchOption end (First (grid_board g) S') (WalkWritten g W')
