-- What the bench program prints (document 01, "Bench use"). Every line ends in a line feed.
--     tables_text     `tables` and then `A ` and `B ` with each row's digit, rows rising
--     walk_text       `walk` and then one line per entry, claim, a space, combination, in decimal
--     refused_text    one line of `refused`, code, sheet and place, in decimal with one space between
--     Texted         how a call can end, for either form, every job and every buffer
-- Assumes nothing: these are definitions.
use Rattle.std.specs.Prelude.{◌≡◌, List, [], ◌∷◌, ◌++◌, map, ℕ, ◌+◌, ◌*◌, ◌-◌, ◌<◌, ◌≤◌, length, drop}
use Rattle.steps.specs.declared.Outcome.{Outcome}
use Rattle.steps.specs.declared.Refusal.{Refusal}
use Rattle.steps.specs.Outcome.{success, refusal, refused_job}
use Rattle.sheet.specs.declared.Form.{Form}
use Rattle.sheet.specs.Job.{Job, accepted, rejected}
use Rattle.sheet.specs.JobSheet.{read_job}
use Rattle.answer.specs.Answer.{Entry}
use Rattle.answer.specs.Written.{IsPair, IsWalk}
use Rattle.board.specs.Board.{rows}
use Rattle.board.specs.Tables.{First}
use Rattle.board.specs.Walk.{Stands}
use Rattle.board.specs.JobBoard.{job_board}
use Rattle.text.specs.Decimal.{decimal}

-- the longest text: `walk` and 2,046 lines of ten bytes
abbrev pub longest_text : ℕ
longest_text = 20465

abbrev pub digits : List ℕ → List ℕ
digits xs = map (λ x. 48 + x) xs

-- tables, a line feed, A, a space
abbrev pub head_a : List ℕ
head_a = 116 ∷ 97 ∷ 98 ∷ 108 ∷ 101 ∷ 115 ∷ 10 ∷ 65 ∷ 32 ∷ []

-- a line feed, B, a space
abbrev pub head_b : List ℕ
head_b = 10 ∷ 66 ∷ 32 ∷ []

abbrev pub tables_text : (xs ys : List ℕ) → List ℕ
tables_text xs ys = head_a ++ digits xs ++ head_b ++ digits ys ++ (10 ∷ [])

-- walk, a line feed
abbrev pub head_walk : List ℕ
head_walk = 119 ∷ 97 ∷ 108 ∷ 107 ∷ 10 ∷ []

abbrev pub line_of : Entry → List ℕ
line_of e = decimal e.says ++ (32 ∷ decimal e.by) ++ (10 ∷ [])

unfoldable pub lines : List Entry → List ℕ
lines [] = []
lines (e ∷ es) = line_of e ++ lines es

abbrev pub walk_text : List Entry → List ℕ
walk_text es = head_walk ++ lines es

-- refused, a space
abbrev pub head_refused : List ℕ
head_refused = 114 ∷ 101 ∷ 102 ∷ 117 ∷ 115 ∷ 101 ∷ 100 ∷ 32 ∷ []

abbrev pub refused_text : Outcome → List ℕ
refused_text o = head_refused ++ decimal o.code ++ (32 ∷ decimal o.sheet) ++ (32 ∷ decimal o.place) ++ (10 ∷ [])

-- A call that writes something other than an answer sheet succeeds with 0 and the bytes written; bytes beyond stay.
pub record Printed (t entry : List ℕ) (o : Outcome) (exit : List ℕ) : Type 0 where
  pub outcome : o ≡ success 0 (length t)
  pub bytes : exit ≡ t ++ drop (length t) entry

pub data Texted (f : Form) (job entry : List ℕ) (o : Outcome) (exit : List ℕ) : Type 0 where
  no_room : length entry < longest_text → o ≡ refusal 6 0 0 → exit ≡ entry → Texted f job entry o exit
  refused : (w : Refusal) → longest_text ≤ length entry → read_job f job ≡ rejected w → Printed (refused_text (refused_job 1 w)) entry o exit → Texted f job entry o exit
  tables :
      (j : Job) (xs ys : List ℕ) → longest_text ≤ length entry → read_job f job ≡ accepted j → IsPair (job_board j).rows_a (job_board j).rows_b xs ys
      → First (job_board j) (xs ++ ys) → Printed (tables_text xs ys) entry o exit → Texted f job entry o exit
  walk :
      (j : Job) (es : List Entry) → longest_text ≤ length entry → read_job f job ≡ accepted j → IsWalk (2 * rows (job_board j)) (job_board j).combinations es
      → Stands (job_board j) es → length es ≤ 4 * rows (job_board j) - 2 → Printed (walk_text es) entry o exit → Texted f job entry o exit
