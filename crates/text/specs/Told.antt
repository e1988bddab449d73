-- The text that the bench program of a form prints for a job (document 01, "Bench use"): a refusal, tables or a walk.
-- Assumes nothing: this is a definition.
use Rattle.std.specs.Prelude.{◌≡◌, ℕ, List, ◌++◌, ◌*◌, ◌-◌, ◌≤◌, length}
use Rattle.steps.specs.declared.Refusal.{Refusal}
use Rattle.steps.specs.Outcome.{refused_job}
use Rattle.sheet.specs.declared.Form.{Form}
use Rattle.sheet.specs.Job.{Job, accepted, rejected}
use Rattle.sheet.specs.JobSheet.{read_job}
use Rattle.answer.specs.Answer.{Entry}
use Rattle.answer.specs.Written.{IsPair, IsWalk}
use Rattle.board.specs.Board.{rows}
use Rattle.board.specs.Tables.{First}
use Rattle.board.specs.Walk.{Stands}
use Rattle.board.specs.JobBoard.{job_board}
use Rattle.text.specs.Text.{refused_text, tables_text, walk_text}

pub data Told (f : Form) (job t : List ℕ) : Type 0 where
  refused : (w : Refusal) → read_job f job ≡ rejected w → t ≡ refused_text (refused_job 1 w) → Told f job t
  tables :
      (j : Job) (xs ys : List ℕ) → read_job f job ≡ accepted j → IsPair (job_board j).rows_a (job_board j).rows_b xs ys
      → First (job_board j) (xs ++ ys) → t ≡ tables_text xs ys → Told f job t
  walk :
      (j : Job) (es : List Entry) → read_job f job ≡ accepted j → IsWalk (2 * rows (job_board j)) (job_board j).combinations es
      → Stands (job_board j) es → length es ≤ 4 * rows (job_board j) - 2 → t ≡ walk_text es → Told f job t
