-- What the widener's parts ask and leave: tables that are written piece by piece.
--     Widens, WidenedOn      what `widen_table` asks and leaves
--     Wide, Widely  what `write_wide` asks and leaves
-- Assumes nothing: these are definitions.
use Rattle.std.specs.Prelude.{◌≡◌, List, ◌++◌, ℕ, ◌+◌, ◌^◌, ◌<◌, ◌≤◌, length, get_or, drop}
use Rattle.std.specs.Int.Count.{ones}
use Rattle.std.proofs.lemmas.List.Edits.{sets}
use Rattle.sheet.specs.declared.JobHead.{JobHead}
use Rattle.answer.specs.AnswerSheet.{longest}
use Rattle.answer.specs.declared.page.Page.{Page}
use Rattle.answer.specs.Written.{table, tables_sheet}
use Rattle.board.specs.Places.{TablesIn}
use Rattle.widener.specs.Table.{narrow_row, tabled}

-- the table of a cell that sees the wires of `few` stands in s from the place `first` on, and there is room for that of a cell that sees those of `more`
pub record Widens (few more : ℕ) (s : List ℕ) (first : ℕ) (p : Page) : Type 0 where
  pub few_seen : ones few ≤ 8
  pub more_seen : ones more ≤ 8
  pub there : first + 2 ^ ones few ≤ length s
  pub room : p.at + 2 + 2 ^ ones more ≤ length p.bytes.now

pub record Wide (hp hq : JobHead) (s out : List ℕ) : Type 0 where
  pub sees_a : ones hp.sees_a ≤ 8
  pub sees_b : ones hp.sees_b ≤ 8
  pub wide_a : ones hq.sees_a ≤ 8
  pub wide_b : ones hq.sees_b ≤ 8
  pub tables : TablesIn hp s
  pub room : longest ≤ length out

-- the rows of a widened table, from the bytes at a place of a sheet
abbrev pub rows_from : (n few more : ℕ) (s : List ℕ) (first : ℕ) → List ℕ
rows_from n few more s first = tabled (λ i. get_or s (first + narrow_row n few more i) 0) 0 (2 ^ ones more)

-- the widened table stands on the page where it went on, at every number of wires that holds both masks
pub record WidenedOn (few more : ℕ) (s : List ℕ) (first : ℕ) (p q : Page) : Type 0 where
  pub same : q.bytes.ghost_name ≡ p.bytes.ghost_name
  pub long : length q.bytes.now ≡ length p.bytes.now
  pub at : q.at ≡ p.at + 2 + 2 ^ ones more
  pub rows : (n : ℕ) → few < 2 ^ n → more < 2 ^ n → q.bytes.now ≡ sets p.bytes.now p.at (table (rows_from n few more s first))

abbrev pub sheet_from : (n : ℕ) (hp hq : JobHead) (s : List ℕ) → List ℕ
sheet_from n hp hq s =
    tables_sheet (rows_from n hp.sees_a hq.sees_a s 2) (rows_from n hp.sees_b hq.sees_b s (4 + 2 ^ ones hp.sees_a))

pub record Widely (hp hq : JobHead) (s entry exit : List ℕ) (r : ℕ) : Type 0 where
  pub long : (n : ℕ) → r ≡ length (sheet_from n hp hq s)
  pub wrote : (n : ℕ) → hp.sees_a < 2 ^ n → hp.sees_b < 2 ^ n → hq.sees_a < 2 ^ n → hq.sees_b < 2 ^ n
      → exit ≡ sheet_from n hp hq s ++ drop r entry
