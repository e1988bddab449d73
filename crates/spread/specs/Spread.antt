-- What the spread asks of the lent arrays, and what it promises of them.
--     Starts     what `spread` asks
--     Closed     no step leads from the first n queue entries to a claim that is not marked
--     Spread     every claim to which steps lead from the start is marked, and no other
-- Assumes nothing: these are definitions.
use Rattle.std.specs.Prelude.{ℕ, ◌<◌, ◌≤◌, ◌≡◌}
use Rattle.grid.specs.Grid.{claims}
use Rattle.grid.specs.Grid.{Grid}
use Rattle.scan.specs.Steps.{Step}
use Rattle.scan.specs.Reach.{Store, mark, entry, Room, Reach}

-- what `spread` asks and promises
pub record Starts (g : Grid) (s : Store) (start : ℕ) : Type 0 where
  pub room : Room g s
  pub inside : start < claims g

-- no step leads from the first n queue entries to a claim that is not marked
abbrev pub Closed : Grid → Store → ℕ → Type 0
Closed g s n = (i : ℕ) → i < n → (m a : ℕ) → Step g (entry s i) m a → mark s m ≡ 1

pub record Spread (g : Grid) (start : ℕ) (s : Store) (r : ℕ) : Type 0 where
  pub some : 0 < r
  pub few : r ≤ claims g
  pub first : entry s 0 ≡ start
  pub reach : Reach g s r
  pub closed : Closed g s r
