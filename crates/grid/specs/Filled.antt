-- What the functions that fill a grid's arrays leave in them. Assumes nothing: these are definitions.
use Rattle.std.specs.Prelude.{◌≡◌, List, ℕ, ◌+◌, ◌*◌, ◌^◌, ◌<◌, ◌≤◌, length, get_or}
use Rattle.std.specs.Int.Count.{ones}
use Rattle.wires.specs.Wires.{shown}
use Rattle.faults.specs.Table.{bit as digit}
use Rattle.grid.specs.Grid.{bit}

-- what `double` asks and leaves: the first `size` entries stay, and the next are these with `step` added
pub record Doubles (s : List ℕ) (size step : ℕ) : Type 0 where
  pub room : size + size ≤ length s
  pub fits : (i : ℕ) → i < size → get_or s i 0 + step < 256

pub record Doubled (s t : List ℕ) (size step : ℕ) : Type 0 where
  pub long : length t ≡ length s
  pub low : (i : ℕ) → i < size → get_or t i 0 ≡ get_or s i 0
  pub high : (i : ℕ) → i < size → get_or t (size + i) 0 ≡ get_or s i 0 + step

-- what `fill_rows` asks of its numbers
pub record Asks (wires seen : ℕ) (s : List ℕ) : Type 0 where
  pub few : wires ≤ 14
  pub mask : seen < 2 ^ wires
  pub few_seen : ones seen ≤ 8
  pub room : 2 ^ wires ≤ length s

-- t has at each combination the row that it shows
pub record Rows (wires seen : ℕ) (s t : List ℕ) : Type 0 where
  pub long : length t ≡ length s
  pub rows : (a : ℕ) → a < 2 ^ wires → get_or t a 0 ≡ shown wires seen a

-- t has at each combination below n the four digits of the table
pub record Faulted (n : ℕ) (table s t : List ℕ) : Type 0 where
  pub long : length t ≡ length s
  pub small : (a : ℕ) → a < n → get_or t a 0 < 16
  pub bits : (a x y : ℕ) → a < n → x < 2 → y < 2 → bit (get_or t a 0) (2 * x + y) ≡ digit table a x y
