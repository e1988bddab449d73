-- The codes of the checker's judgements, and the rule that they carry.
--     verdict_for                 what an answer sheet comes to for a job
--     tables-not, walk-not       tables get 10 or 20, a walk 12, 13 or 21
--     judge-rule, check-rule     whatever has another code than 10 carries the rule 0
-- Assumes nothing.
use mathlib.Core.Path.{◌≡◌, refl}
use mathlib.Core.List.{List, ◌++◌}
use mathlib.Core.Logic.{◌≢◌}
use Prim.Native.Nat.{ℕ}
use native.Mathlib.Omega.{arith}
use Rattle.sheet.specs.declared.Form.{Form}
use Rattle.sheet.specs.Job.{Job, Verdict, accepted, rejected}
use Rattle.sheet.specs.JobSheet.{read_job}
use Rattle.answer.specs.Answer.{Entry, tables, walk, AnswerVerdict, answered}
use Rattle.answer.specs.Answer.{rejected as unanswered}
use Rattle.answer.specs.AnswerSheet.{read_answer}
use Rattle.board.specs.Board.{Board}
use Rattle.board.specs.JobBoard.{job_board}
use Rattle.board.specs.Check.{judge_tables, judge_walk, judge, judge_sheet, after_job, check_outcome}

abbrev pub verdict_for : (answer : List ℕ) → Job → AnswerVerdict
verdict_for answer j = read_answer (job_board j).rows_a (job_board j).rows_b (job_board j).combinations answer

module _ (B : Board) where
  pub tables-not : (T : List ℕ) (c : ℕ) → (10 ≢ c) → (20 ≢ c) → (judge_tables B T).code ≡ c → ⊥
  unfolding judge_tables
  tables-not T c broken fits e = grind arith

  pub walk-not : (es : List Entry) (c : ℕ) → (12 ≢ c) → (13 ≢ c) → (21 ≢ c) → (judge_walk B es).code ≡ c → ⊥
  unfolding judge_walk
  walk-not es c step meets stands e = grind arith

  tables-rule : (T : List ℕ) → ((judge_tables B T).code ≢ 10) → (judge_tables B T).rule ≡ 0
  unfolding judge_tables
  tables-rule T d = grind arith

  walk-rule : (es : List Entry) → (judge_walk B es).rule ≡ 0
  unfolding judge_walk
  walk-rule es = grind arith

  pub judge-rule : (v : AnswerVerdict) → ((judge B v).code ≢ 10) → (judge B v).rule ≡ 0
  judge-rule (answered (tables xs ys)) d = tables-rule (xs ++ ys) d
  judge-rule (answered (walk es)) d = walk-rule es
  judge-rule (unanswered w) d = refl

after-rule : (v : Verdict) (answer : List ℕ) → ((after_job v answer).code ≢ 10) → (after_job v answer).rule ≡ 0
unfolding judge_sheet
after-rule (accepted j) answer d = judge-rule (job_board j) (verdict_for answer j) d
after-rule (rejected w) answer d = refl

pub check-rule : (f : Form) (job answer : List ℕ) → ((check_outcome f job answer).code ≢ 10) → (check_outcome f job answer).rule ≡ 0
unfolding check_outcome
check-rule f job answer d = after-rule (read_job f job) answer d
