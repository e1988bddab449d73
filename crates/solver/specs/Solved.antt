-- How a solver call can end (document 01, demand 2 and "Outcome numbers").
--     Wrote         one sheet stands at the front of the lent buffer, and every byte beyond it is as it was
--     SolvedOn      on a board: the first pair, or a walk that stands
--     Solved        for either form, every job and every buffer: refused, no room, tables, or a walk
-- Assumes nothing: these are definitions.
use Rattle.std.specs.Prelude.{◌≡◌, List, ◌++◌, ℕ, ◌*◌, ◌-◌, ◌<◌, ◌≤◌, length, drop}
use Rattle.steps.specs.declared.Outcome.{Outcome}
use Rattle.steps.specs.declared.Refusal.{Refusal}
use Rattle.steps.specs.Outcome.{success, refusal, refused_job}
use Rattle.sheet.specs.declared.Form.{Form}
use Rattle.sheet.specs.Job.{Job, accepted, rejected}
use Rattle.sheet.specs.JobSheet.{read_job}
use Rattle.answer.specs.Answer.{Entry}
use Rattle.answer.specs.AnswerSheet.{longest}
use Rattle.answer.specs.Written.{tables_sheet, walk_sheet, IsPair, IsWalk}
use Rattle.board.specs.Board.{Board, rows}
use Rattle.board.specs.Tables.{First}
use Rattle.board.specs.Walk.{Stands}
use Rattle.board.specs.JobBoard.{job_board}

-- On success bytes beyond the written length stay unchanged.
abbrev pub Wrote : (sheet entry exit : List ℕ) → Type 0
Wrote sheet entry exit = exit ≡ sheet ++ drop (length sheet) entry

pub data SolvedOn (B : Board) (entry : List ℕ) (o : Outcome) (exit : List ℕ) : Type 0 where
  -- 20: tables, the first fitting pair; "bytes written" is that sheet's length
  tables :
      (xs ys : List ℕ) → IsPair B.rows_a B.rows_b xs ys → First B (xs ++ ys)
      → o ≡ success 20 (length (tables_sheet xs ys)) → Wrote (tables_sheet xs ys) entry exit → SolvedOn B entry o exit
  -- 21: a walk that stands, of at most 4R − 2 entries
  walk :
      (es : List Entry) → IsWalk (2 * rows B) B.combinations es → Stands B es → length es ≤ 4 * rows B - 2
      → o ≡ success 21 (length (walk_sheet es)) → Wrote (walk_sheet es) entry exit → SolvedOn B entry o exit

-- Solver: 1–5, then 6. Refusals write 0 bytes; all buffers keep their contents.
pub data Solved (f : Form) (job entry : List ℕ) (o : Outcome) (exit : List ℕ) : Type 0 where
  refused : (w : Refusal) → read_job f job ≡ rejected w → o ≡ refused_job 1 w → exit ≡ entry → Solved f job entry o exit
  no_room : (j : Job) → read_job f job ≡ accepted j → length entry < longest → o ≡ refusal 6 0 0 → exit ≡ entry → Solved f job entry o exit
  solved : (j : Job) → read_job f job ≡ accepted j → longest ≤ length entry → SolvedOn (job_board j) entry o exit → Solved f job entry o exit
