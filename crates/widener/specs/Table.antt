-- The widened table (document 01, "Widening").
--     narrow_row      P's row shown by the same wires as a row of Q's cell
--     tabled         a list by its rule
--     widen_table     the widened table of one cell
--     widen_sheet     the tables sheet for Q
-- Assumes nothing: these are definitions.
use Rattle.std.specs.Prelude.{List, [], ◌∷◌, ℕ, zero, suc, ◌+◌, ◌^◌, length, get_or}
use Rattle.std.specs.Int.Count.{ones}
use Rattle.wires.specs.Wires.{shown, placed}
use Rattle.sheet.specs.Job.{Job}
use Rattle.answer.specs.Written.{tables_sheet}

-- the row shown to a cell that sees the wires of `few`, by a combination that shows the row r to one that sees those of `more`
abbrev pub narrow_row : (n few more r : ℕ) → ℕ
narrow_row n few more r = shown n few (placed n more r)

-- f i, f (i + 1) and so on, k of them
unfoldable pub tabled : (ℕ → ℕ) → (i k : ℕ) → List ℕ
tabled f i zero = []
tabled f i (suc k) = f i ∷ tabled f (i + 1) k

-- The widened table holds, in each row of Q's cell, the value of P's row shown by the same wires.
abbrev pub widen_table : (n few more : ℕ) → List ℕ → List ℕ
widen_table n few more xs = tabled (λ r. get_or xs (narrow_row n few more r) 0) 0 (2 ^ ones more)

abbrev pub widen_sheet : (P Q : Job) → (xs ys : List ℕ) → List ℕ
widen_sheet P Q xs ys =
    tables_sheet (widen_table (length Q.pins) P.sees_a Q.sees_a xs) (widen_table (length Q.pins) P.sees_b Q.sees_b ys)
