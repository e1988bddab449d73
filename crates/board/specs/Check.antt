-- The checker's outcome, for either form, every job sheet and every answer sheet (document 01, "Outcome numbers"; document 02, request 4).
--     judge_tables     10 at the lowest combination where the tables break a rule, with the lowest rule broken there, else 20
--     judge_walk       12 at the lowest entry whose step does not hold, then 13, else 21
--     check_outcome    the outcome
-- Assumes nothing: these are definitions.
use Rattle.std.specs.Prelude.{Bool, not, List, ◌++◌, ℕ, ◌+◌, ltb, eqb, length}
use Rattle.steps.specs.declared.Outcome.{Outcome}
use Rattle.steps.specs.Step.{pick}
use Rattle.steps.specs.Outcome.{success, refusal, rule_broken, refused_job, refused_answer}
use Rattle.sheet.specs.declared.Form.{Form}
use Rattle.sheet.specs.Job.{Verdict, accepted, rejected}
use Rattle.sheet.specs.JobSheet.{read_job}
use Rattle.answer.specs.Answer.{Entry, tables, walk, AnswerVerdict, answered}
use Rattle.answer.specs.Answer.{rejected as unanswered}
use Rattle.answer.specs.AnswerSheet.{read_answer}
use Rattle.board.specs.Board.{Board, at_b, opposite}
use Rattle.board.specs.Tables.{held}
use Rattle.board.specs.Walk.{entry}
use Rattle.board.specs.Tests.{lowest, stepb, amongb}
use Rattle.board.specs.Tested.{tested, rule_of}
use Rattle.board.specs.JobBoard.{job_board}

module _ (B : Board) where
  -- with A and B set to the rows that a shows, some rule is broken
  abbrev pub fault_at : List ℕ → ℕ → Bool
  fault_at T a = B.breaks a (held T (B.show_a a)) (held T (at_b B a))

  -- the rule that the test tells then
  abbrev pub rule_at : List ℕ → ℕ → ℕ
  rule_at T a = rule_of (tested B a (held T (B.show_a a)) (held T (at_b B a)))

  -- 10: tables break a rule, at the lowest such combination; the outcome carries the lowest rule broken there. 20: tables
  abbrev pub tables_at : (rule : ℕ → ℕ) → ℕ → Outcome
  tables_at rule m = pick (ltb m B.combinations) (rule_broken m (rule m)) (success 20 0)

  unfoldable pub judge_tables : List ℕ → Outcome
  judge_tables T = tables_at (rule_at T) (lowest (fault_at T) B.combinations)

  -- the entry after entry i; after the last comes the first
  abbrev pub next_of : List Entry → ℕ → ℕ
  next_of es i = pick (eqb (i + 1) (length es)) 0 (i + 1)

  abbrev pub step_at : List Entry → ℕ → Bool
  step_at es i = stepb B (entry es i).says (entry es (next_of es i)).says (entry es i).by

  -- 12: a step does not hold, at the lowest such entry's number, from 0. 13: opposite of the first claim is absent. 21: walk
  abbrev pub walk_at : List Entry → ℕ → Outcome
  walk_at es m =
      pick (ltb m (length es)) (refusal 12 2 m)
      (pick (amongb (opposite (entry es 0).says) es) (success 21 0) (refusal 13 2 0))

  unfoldable pub judge_walk : List Entry → Outcome
  judge_walk es = walk_at es (lowest (λ i. not (step_at es i)) (length es))

  abbrev pub judge : AnswerVerdict → Outcome
  judge (answered (tables xs ys)) = judge_tables (xs ++ ys)
  judge (answered (walk es)) = judge_walk es
  judge (unanswered w) = refused_answer w

  -- Checker: 7, 8, 9 and 11 in reading order, then 10, or 12 and then 13.
  unfoldable pub judge_sheet : List ℕ → Outcome
  judge_sheet s = judge (read_answer B.rows_a B.rows_b B.combinations s)

-- Checker: 1–5, then the rest.
abbrev pub after_job : Verdict → List ℕ → Outcome
after_job (accepted j) s = judge_sheet (job_board j) s
after_job (rejected w) s = refused_job 1 w

unfoldable pub check_outcome : Form → (job answer : List ℕ) → Outcome
check_outcome f job answer = after_job (read_job f job) answer
