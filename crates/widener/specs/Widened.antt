-- How a widener call ends, for either form and every four byte lists (document 01, "Outcome numbers").
--     widened       the ending
-- Widener: P's 1–5, Q's, then the checker's refusals, 15, 14, 6. Assumes nothing: these are definitions.
use Rattle.std.specs.Prelude.{List, ◌++◌, ℕ, ltb, eqb, length}
use Rattle.steps.specs.Step.{pick}
use Rattle.steps.specs.Outcome.{refusal, refused_job, refused_answer, Ending, refusing, writing}
use Rattle.sheet.specs.declared.Form.{Form}
use Rattle.sheet.specs.Job.{Job, Verdict, accepted, rejected}
use Rattle.sheet.specs.JobSheet.{read_job}
use Rattle.answer.specs.Answer.{tables, walk, AnswerVerdict, answered}
use Rattle.answer.specs.Answer.{rejected as unanswered}
use Rattle.answer.specs.AnswerSheet.{read_answer, longest}
use Rattle.board.specs.JobBoard.{job_board}
use Rattle.board.specs.Check.{judge_tables, judge_walk}
use Rattle.asking.specs.Asks.{asksb}
use Rattle.widener.specs.Table.{widen_sheet}

-- tables that fit P. 14: Q does not ask no more than P (sheet 3). 6: buffer under 8,190 bytes (sheet 0)
abbrev pub fitting : (P Q : Job) → (xs ys entry : List ℕ) → Ending
fitting P Q xs ys entry =
    pick (asksb P Q) (pick (ltb (length entry) longest) (refusing (refusal 6 0 0) entry) (writing 20 (widen_sheet P Q xs ys) entry))
    (refusing (refusal 14 3 0) entry)

-- the answer against P. 15: answer is a standing walk where tables are needed (sheet 2)
abbrev pub judged : (P Q : Job) → AnswerVerdict → List ℕ → Ending
judged P Q (answered (tables xs ys)) entry =
    pick (eqb (judge_tables (job_board P) (xs ++ ys)).code 20) (fitting P Q xs ys entry) (refusing (judge_tables (job_board P) (xs ++ ys)) entry)
judged P Q (answered (walk es)) entry =
    pick (eqb (judge_walk (job_board P) es).code 21) (refusing (refusal 15 2 0) entry) (refusing (judge_walk (job_board P) es) entry)
judged P Q (unanswered w) entry = refusing (refused_answer w) entry

abbrev pub with_both : (P Q : Job) → (s entry : List ℕ) → Ending
with_both P Q s entry = judged P Q (read_answer (job_board P).rows_a (job_board P).rows_b (job_board P).combinations s) entry

abbrev pub with_p : (P : Job) → Verdict → (s entry : List ℕ) → Ending
with_p P (accepted Q) s entry = with_both P Q s entry
with_p P (rejected w) s entry = refusing (refused_job 3 w) entry

abbrev pub with_none : Form → Verdict → (q s entry : List ℕ) → Ending
with_none f (accepted P) q s entry = with_p P (read_job f q) s entry
with_none f (rejected w) q s entry = refusing (refused_job 1 w) entry

-- both jobs in the form named
unfoldable pub widened : Form → (p q s entry : List ℕ) → Ending
widened f p q s entry = with_none f (read_job f p) q s entry
