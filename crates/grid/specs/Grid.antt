-- A board as the solver's arrays hold it: the row that each combination shows to A and to B, and its faults, a number of four bits each.
--     Grid           the numbers and the arrays
--     Sound          what the arrays' maker ensures of them
--     grid_board      the board that they stand for
-- Assumes nothing: these are definitions.
use Rattle.std.specs.Prelude.{◌≡◌, List, ℕ, ◌+◌, ◌*◌, ◌/◌, ◌%◌, ◌^◌, ◌<◌, ◌≤◌, eqb, length, get_or}
use Rattle.std.specs.Int.Count.{ones}
use Rattle.wires.specs.Wires.{shown}
use Rattle.board.specs.Board.{Board}
use Rattle.grid.specs.declared.Shape.{Shape}

pub record Grid : Type 0 where
  pub shape : Shape
  pub row_a : List ℕ
  pub row_b : List ℕ
  pub faults : List ℕ

abbrev pub grid : Shape → (xs ys fs : List ℕ) → Grid
grid s xs ys fs = record { shape = s; row_a = xs; row_b = ys; faults = fs }

-- how many claims there are: two for each row
abbrev pub claims : Grid → ℕ
claims g = 2 * (g.shape.rows_a + g.shape.rows_b)

abbrev pub shown_a : Grid → ℕ → ℕ
shown_a g a = get_or g.row_a a 0

abbrev pub shown_b : Grid → ℕ → ℕ
shown_b g a = get_or g.row_b a 0

abbrev pub fault : Grid → ℕ → ℕ
fault g a = get_or g.faults a 0

-- a bit of a number, 0 or 1
unfoldable pub bit : ℕ → ℕ → ℕ
bit f k = f / 2 ^ k % 2

-- the sizes of a board belong to its wires and seen sets
pub record Sizes (s : Shape) : Type 0 where
  pub rows_a : s.rows_a ≡ 2 ^ ones s.sees_a
  pub rows_b : s.rows_b ≡ 2 ^ ones s.sees_b
  pub combinations : s.combinations ≡ 2 ^ s.wires
  pub mask_a : s.sees_a < 2 ^ s.wires
  pub mask_b : s.sees_b < 2 ^ s.wires
  pub few_a : s.rows_a ≤ 256
  pub few_b : s.rows_b ≤ 256
  pub few : s.wires ≤ 14

pub record Sound (g : Grid) : Type 0 where
  pub sizes : Sizes g.shape
  pub long_a : g.shape.combinations ≤ length g.row_a
  pub long_b : g.shape.combinations ≤ length g.row_b
  pub long_faults : g.shape.combinations ≤ length g.faults
  pub is_a : (a : ℕ) → a < g.shape.combinations → shown_a g a ≡ shown g.shape.wires g.shape.sees_a a
  pub is_b : (a : ℕ) → a < g.shape.combinations → shown_b g a ≡ shown g.shape.wires g.shape.sees_b a

-- the bit 2x + y of a combination's faults says whether some rule is broken there with A at x and B at y, and not which
abbrev pub grid_board : Grid → Board
grid_board g =
    record {
      rows_a = g.shape.rows_a;
      rows_b = g.shape.rows_b;
      combinations = g.shape.combinations;
      show_a = shown_a g;
      show_b = shown_b g;
      breaks = λ a x y. eqb (bit (fault g a) (2 * x + y)) 1;
      rule = λ a x y. 0;
    }
