-- One step of a grid's claims, as the arrays tell it.
--     ShowsRow   a combination shows a claim's row
--     Step       from claim l to claim m by combination a: the two are of different cells, a shows both rows, and with l true and m false some rule is broken at a
--     side_of     how a claim looks at the board: its cell and row, and by which fault bits its steps lead to which rows
--     other_rows  the rows of the other cell, by a claim's side
--     aim_of      where the steps of a claim lead
-- Assumes nothing: these are definitions.
use Rattle.std.specs.Prelude.{◌≡◌, ℕ, ◌+◌, ◌-◌, ◌*◌, ◌/◌, ◌%◌, ◌<◌, cond, ◌⊎◌, List, nat_eq, nat_lt, slice_index}
use Rattle.grid.specs.Grid.{shown_a, shown_b, fault, bit}
use Rattle.grid.specs.Grid.{Grid}
use Rattle.grid.specs.declared.Shape.{Shape}
use Rattle.scan.specs.declared.Side.{Side}

-- combination a shows the row of claim l
abbrev pub ShowsRow : Grid → ℕ → ℕ → Type 0
ShowsRow g l a = (l / 2 ≡ shown_a g a) ⊎ (l / 2 ≡ g.shape.rows_a + shown_b g a)

pub data Step (g : Grid) (l m a : ℕ) : Type 0 where
  a-to-b : a < g.shape.combinations → l / 2 ≡ shown_a g a → m / 2 ≡ g.shape.rows_a + shown_b g a → bit (fault g a) (2 * (l % 2) + (1 - m % 2)) ≡ 1 → Step g l m a
  b-to-a : a < g.shape.combinations → l / 2 ≡ g.shape.rows_a + shown_b g a → m / 2 ≡ shown_a g a → bit (fault g a) (2 * (1 - m % 2) + l % 2) ≡ 1 → Step g l m a

-- The side of a claim: the wires that its cell sees and its row there; the first row of the other cell, and the fault bits by which steps lead to a 0 claim
-- (`low`) and to a 1 claim (`high`) of its rows.
abbrev pub side : (seen row first low high : ℕ) → Side
side seen row first low high = record { seen = seen; row = row; first = first; low = low; high = high }

unfoldable pub side_of : Shape → ℕ → Side
side_of shape l =
    cond (nat_lt (l / 2) shape.rows_a)
    (side shape.sees_a (l / 2) shape.rows_a (2 * (l % 2) + 1) (2 * (l % 2)))
    (side shape.sees_b (l / 2 - shape.rows_a) 0 (2 + l % 2) (l % 2))

-- The row of the other cell that each combination shows: that cell is B where its first row is B's first, and else A.
unfoldable pub other_rows : Grid → Side → List ℕ
other_rows g own = cond (nat_eq own.first g.shape.rows_a) g.row_b g.row_a

-- Where steps lead: `other` has the row of the other cell that each combination shows.
pub record Aim : Type 0 where
  pub faults : List ℕ
  pub other : List ℕ
  pub own : Side

abbrev pub aim : (faults other : List ℕ) (own : Side) → Aim
aim fs rows own = record { faults = fs; other = rows; own = own }

unfoldable pub aim_of : Grid → ℕ → Aim
aim_of g l = aim g.faults (cond (nat_lt (l / 2) g.shape.rows_a) g.row_b g.row_a) (side_of g.shape l)

-- the 0 claim of the row that combination a shows to the other cell
abbrev pub base : Aim → ℕ → ℕ
base v a = 2 * (v.own.first + slice_index v.other a)
