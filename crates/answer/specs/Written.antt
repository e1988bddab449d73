-- Answer sheets as they are written (document 01, "Answer sheet").
--     tables_sheet    the sheet of two tables
--     walk_sheet      the sheet of a walk
--     Bytes          each number of a list is a byte
--     IsPair, IsWalk     the tables and the walks that a board of given sizes has
-- Assumes nothing: these are definitions.
use Rattle.std.specs.Prelude.{◌≡◌, ℕ, ◌/◌, ◌%◌, ◌<◌, ◌≤◌, List, [], ◌∷◌, ◌++◌, length, get_or}
use Rattle.answer.specs.Answer.{Entry}
use Rattle.answer.specs.AnswerSheet.{walk_limit}

-- a number of two bytes, low byte first
abbrev pub two : ℕ → List ℕ
two n = n % 256 ∷ n / 256 ∷ []

-- a table: the count of its rows, then a byte for each row, rows rising
abbrev pub table : List ℕ → List ℕ
table rows = two (length rows) ++ rows

-- A walk entry is four bytes: claim, then combination, low bytes first.
abbrev pub four : Entry → List ℕ
four e = two e.says ++ two e.by

unfoldable pub fours : List Entry → List ℕ
fours [] = []
fours (e ∷ es) = four e ++ fours es

-- Tables: counts are the rows of A, the rows of B, and 0.
abbrev pub tables_sheet : List ℕ → List ℕ → List ℕ
tables_sheet xs ys = table xs ++ table ys ++ two 0

-- Walk: 0, 0, and the number of entries.
abbrev pub walk_sheet : List Entry → List ℕ
walk_sheet es = two 0 ++ two 0 ++ two (length es) ++ fours es

abbrev pub Bytes : List ℕ → Type 0
Bytes s = (i : ℕ) → i < length s → get_or s i 0 < 256

-- a bit for each row of A and of B
pub record IsPair (rows_a rows_b : ℕ) (xs ys : List ℕ) : Type 0 where
  pub long_a : length xs ≡ rows_a
  pub long_b : length ys ≡ rows_b
  pub bits_a : (r : ℕ) → r < rows_a → get_or xs r 0 < 2
  pub bits_b : (r : ℕ) → r < rows_b → get_or ys r 0 < 2

abbrev pub entry_at : List Entry → ℕ → Entry
entry_at es i = get_or es i (record { says = 0; by = 0 })

-- 1 to 2,046 entries, each of a claim and a combination that there is
pub record IsWalk (claims combinations : ℕ) (es : List Entry) : Type 0 where
  pub some : 1 ≤ length es
  pub most : length es ≤ walk_limit
  pub claim : (i : ℕ) → i < length es → (entry_at es i).says < claims
  pub combination : (i : ℕ) → i < length es → (entry_at es i).by < combinations
