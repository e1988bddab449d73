-- The meanings of the cases as tests that compute.
--     sameb, outcomeb    two lists, two outcomes are equal
--     noneb              no pair that begins so fits
--     leastb, firstb     no fitting pair comes before this one; it is the first fitting pair
--     passes             the test of a case
--     every              each of a list passes
-- That they mean what they are named after is proved in Laws. Assumes nothing: these are definitions.
use mathlib.Core.Bool.{Bool, true, false, not, ◌&&◌, ◌||◌}
use mathlib.Core.List.{List, [], ◌∷◌, ◌++◌}
use Prim.Native.Nat.{ℕ, zero, suc}
use lib.Dec.{eqb}
use lib.ListN.{length}
use Rattle.steps.specs.declared.Outcome.{Outcome}
use Rattle.steps.specs.Outcome.{success}
use Rattle.sheet.specs.declared.Form.{Form}
use Rattle.sheet.specs.Job.{Job, Verdict, accepted, rejected}
use Rattle.sheet.specs.JobSheet.{read_job}
use Rattle.answer.specs.Answer.{Entry, tables, walk, AnswerVerdict, answered}
use Rattle.answer.specs.Answer.{rejected as unanswered}
use Rattle.answer.specs.AnswerSheet.{read_answer}
use Rattle.answer.specs.Written.{tables_sheet, walk_sheet}
use Rattle.board.specs.Board.{Board, rows}
use Rattle.board.specs.Tests.{fitsb, standsb}
use Rattle.board.specs.JobBoard.{job_board}
use Rattle.board.specs.Check.{judge_tables, check_outcome}
use Rattle.asking.specs.Asks.{asksb}
use Rattle.widener.specs.Table.{widen_sheet}
use Rattle.shown.specs.Cases.{Case, solves, walks, stands, judges, widens}

unfoldable pub sameb : List ℕ → List ℕ → Bool
sameb [] [] = true
sameb [] (y ∷ ys) = false
sameb (x ∷ xs) [] = false
sameb (x ∷ xs) (y ∷ ys) = eqb x y && sameb xs ys

abbrev pub outcomeb : Outcome → Outcome → Bool
outcomeb o p = eqb o.code p.code && (eqb o.sheet p.sheet && (eqb o.place p.place && (eqb o.written p.written && eqb o.rule p.rule)))

module _ (B : Board) where
  -- of the pairs that begin with the rows `settled` and have k more, none fits
  unfoldable pub noneb : (settled : List ℕ) (k : ℕ) → Bool
  noneb settled zero = not (fitsb B settled)
  noneb settled (suc k) = noneb (settled ++ 0 ∷ []) k && noneb (settled ++ 1 ∷ []) k

  -- where a row holds 1, no pair fits that has the same rows before it, and 0 there
  unfoldable pub leastb : (settled rest : List ℕ) → Bool
  leastb settled [] = true
  leastb settled (b ∷ rest) = (eqb b 0 || noneb (settled ++ 0 ∷ []) (length rest)) && leastb (settled ++ b ∷ []) rest

  abbrev pub firstb : List ℕ → Bool
  firstb T = fitsb B T && leastb [] T

  -- the sheet that was read so is the tables sheet of the first fitting pair
  abbrev pub first_sheet_b : AnswerVerdict → List ℕ → Bool
  first_sheet_b (answered (tables xs ys)) sheet = sameb sheet (tables_sheet xs ys) && firstb (xs ++ ys)
  first_sheet_b (answered (walk es)) sheet = false
  first_sheet_b (unanswered w) sheet = false

abbrev pub read : Board → List ℕ → AnswerVerdict
read B s = read_answer B.rows_a B.rows_b B.combinations s

abbrev pub solvesb : Verdict → List ℕ → Bool
solvesb (accepted j) sheet = first_sheet_b (job_board j) (read (job_board j) sheet) sheet
solvesb (rejected w) sheet = false

abbrev pub walksb : Verdict → Bool
walksb (accepted j) = noneb (job_board j) [] (rows (job_board j))
walksb (rejected w) = false

abbrev pub stands_on_b : Verdict → List Entry → Bool
stands_on_b (accepted j) es = standsb (job_board j) es
stands_on_b (rejected w) es = false

abbrev pub judgesb : Form → (job answer : List ℕ) → Outcome → Bool
judgesb f job answer outcome = outcomeb (check_outcome f job answer) outcome

-- the answer fits P, Q asks no more, and the widened tables are on the sheet
abbrev pub widens_with_b : (P Q : Job) → AnswerVerdict → List ℕ → Bool
widens_with_b P Q (answered (tables xs ys)) sheet =
    eqb (judge_tables (job_board P) (xs ++ ys)).code 20 && (asksb P Q && sameb (widen_sheet P Q xs ys) sheet)
widens_with_b P Q (answered (walk es)) sheet = false
widens_with_b P Q (unanswered w) sheet = false

abbrev pub widens_to_b : Job → Verdict → (answer sheet : List ℕ) → Bool
widens_to_b P (accepted Q) answer sheet = widens_with_b P Q (read (job_board P) answer) sheet
widens_to_b P (rejected w) answer sheet = false

abbrev pub widensb : Form → Verdict → (q answer sheet : List ℕ) → Bool
widensb f (accepted P) q answer sheet = widens_to_b P (read_job f q) answer sheet
widensb f (rejected w) q answer sheet = false

unfoldable pub passes : Case → Bool
passes (solves f job sheet) = solvesb (read_job f job) sheet
passes (walks f job) = walksb (read_job f job)
passes (stands f job es) = stands_on_b (read_job f job) es && judgesb f job (walk_sheet es) (success 21 0)
passes (judges f job answer outcome) = judgesb f job answer outcome
passes (widens f p q answer sheet) = widensb f (read_job f p) q answer sheet

unfoldable pub every : (Case → Bool) → List Case → Bool
every p [] = true
every p (c ∷ cs) = p c && every p cs
