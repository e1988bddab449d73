-- What document 01 says of a sheet ("Sheets on both sides of the line"), and what it means, in the promises' own terms. Each case names the form of its
-- job sheets.
--     Case       what is said
--     OnBoard    the job is accepted, and of its board something holds
--     Solves, Walks, StandsOn, Judges, Widens     the meanings
--     Holds      the meaning of a case
-- Assumes nothing: these are definitions.
use Rattle.std.specs.Prelude.{◌≡◌, List, ℕ, ◌≤◌, length}
use Rattle.steps.specs.declared.Outcome.{Outcome}
use Rattle.steps.specs.Outcome.{success, writing}
use Rattle.sheet.specs.declared.Form.{Form}
use Rattle.sheet.specs.Job.{Job, accepted}
use Rattle.sheet.specs.JobSheet.{read_job}
use Rattle.answer.specs.Answer.{Entry}
use Rattle.answer.specs.AnswerSheet.{longest}
use Rattle.answer.specs.Written.{walk_sheet}
use Rattle.board.specs.Board.{Board}
use Rattle.board.specs.Tables.{Pair}
use Rattle.board.specs.Walk.{Stands}
use Rattle.board.specs.JobBoard.{job_board}
use Rattle.board.specs.Check.{check_outcome}
use Rattle.solver.specs.Solved.{Wrote, Solved}
use Rattle.widener.specs.Widened.{widened}

pub data Case : Type 0 where
  -- the solver answers the job with this sheet of tables
  solves : (f : Form) (job sheet : List ℕ) → Case
  -- no pair fits the job
  walks : (f : Form) (job : List ℕ) → Case
  -- the walk stands
  stands : (f : Form) (job : List ℕ) (es : List Entry) → Case
  -- the answer gets this outcome
  judges : (f : Form) (job answer : List ℕ) (outcome : Outcome) → Case
  -- job p with this answer, widened to job q, gives this sheet of tables
  widens : (f : Form) (p q answer sheet : List ℕ) → Case

abbrev pub OnBoard : (f : Form) (job : List ℕ) → (Board → Type 0) → Type 0
OnBoard f job P = (j : Job) × (read_job f job ≡ accepted j) × P (job_board j)

-- in every buffer with room, however the solver ends: 20, the sheet's length, the sheet at the front, and every byte beyond it as it was
abbrev pub Solves : (f : Form) (job sheet : List ℕ) → Type 0
Solves f job sheet =
    (entry : List ℕ) (o : Outcome) (exit : List ℕ) → longest ≤ length entry → Solved f job entry o exit
    → (o ≡ success 20 (length sheet)) × Wrote sheet entry exit

-- no pair fits, and in every buffer with room, however the solver ends, its code is 21
abbrev pub Walks : (f : Form) (job : List ℕ) → Type 0
Walks f job =
    OnBoard f job (λ B. (T : List ℕ) → Pair B T → ⊥)
    × ((entry : List ℕ) (o : Outcome) (exit : List ℕ) → longest ≤ length entry → Solved f job entry o exit → o.code ≡ 21)

-- the walk stands on the job's board, and the checker says so of its sheet
abbrev pub StandsOn : (f : Form) (job : List ℕ) → List Entry → Type 0
StandsOn f job es = OnBoard f job (λ B. Stands B es) × (check_outcome f job (walk_sheet es) ≡ success 21 0)

abbrev pub Judges : (f : Form) (job answer : List ℕ) → Outcome → Type 0
Judges f job answer outcome = check_outcome f job answer ≡ outcome

-- in every buffer with room
abbrev pub Widens : (f : Form) (p q answer sheet : List ℕ) → Type 0
Widens f p q answer sheet = (entry : List ℕ) → longest ≤ length entry → widened f p q answer entry ≡ writing 20 sheet entry

abbrev pub Holds : Case → Type 0
Holds (solves f job sheet) = Solves f job sheet
Holds (walks f job) = Walks f job
Holds (stands f job es) = StandsOn f job es
Holds (judges f job answer outcome) = Judges f job answer outcome
Holds (widens f p q answer sheet) = Widens f p q answer sheet
