-- The widener's code 10 is the checker's, of job P (document 02, request 4).
--     widen-10, widens-10     where it names a combination and a rule, so does the checker; and the other way round where Q is accepted
--     widen-rule              whatever has another code carries the rule 0
-- Assumes nothing.
use mathlib.Core.Path.{◌≡◌, refl, ap}
use mathlib.Core.Bool.{Bool, true, false}
use mathlib.Core.List.{List, ◌++◌}
use mathlib.Core.Logic.{◌≢◌}
use Prim.Native.Nat.{ℕ}
use native.Mathlib.Omega.{arith}
use borrow.Author.Tests.{ne_eqb}
use lib.Dec.{ltb, eqb}
use lib.ListN.{length}
use Rattle.steps.specs.declared.Outcome.{Outcome}
use Rattle.steps.specs.Step.{pick}
use Rattle.steps.specs.Outcome.{refusal, rule_broken, refused_job, refusing, writing}
use Rattle.steps.proofs.Codes.{codes-differ, sheets-differ}
use Rattle.steps.proofs.Endings.{pick-has}
use Rattle.sheet.specs.declared.Form.{Form}
use Rattle.sheet.specs.Job.{Job, Verdict, accepted, rejected}
use Rattle.sheet.specs.JobSheet.{read_job}
use Rattle.answer.specs.Answer.{tables, walk, AnswerVerdict, answered}
use Rattle.answer.specs.Answer.{rejected as unanswered}
use Rattle.answer.specs.AnswerSheet.{longest}
use Rattle.board.specs.JobBoard.{job_board}
use Rattle.board.specs.Check.{judge_tables, judge_walk, judge, judge_sheet, after_job, check_outcome}
use Rattle.board.proofs.Codes.{verdict_for, walk-not, judge-rule}
use Rattle.asking.specs.Asks.{asksb}
use Rattle.widener.specs.Table.{widen_sheet}
use Rattle.widener.specs.Widened.{fitting, judged, with_p, with_none, widened}

-- another code than 10, and the rule 0
abbrev Plain : Outcome → Type 0
Plain o = (o.code ≢ 10) × (o.rule ≡ 0)

module _ (P Q : Job) (entry : List ℕ) where
  -- tables that fit P end with 14, 6 or 20
  fitting-plain : (xs ys : List ℕ) → Plain (fitting P Q xs ys entry).outcome
  fitting-plain xs ys =
      pick-has Plain (asksb P Q) (pick (ltb (length entry) longest) (refusing (refusal 6 0 0) entry) (writing 20 (widen_sheet P Q xs ys) entry)) (refusing (refusal 14 3 0) entry)
      (pick-has Plain (ltb (length entry) longest) (refusing (refusal 6 0 0) entry) (writing 20 (widen_sheet P Q xs ys) entry) (λ z. omega arith, refl) (λ z. omega arith, refl))
      (λ z. omega arith, refl)

  module _ (place rule : ℕ) where
    judged-to : (v : AnswerVerdict) → (judged P Q v entry).outcome ≡ rule_broken place rule → judge (job_board P) v ≡ rule_broken place rule
    judged-to (answered (tables xs ys)) e = go (eqb (judge_tables (job_board P) (xs ++ ys)).code 20) e
      where
        go : (b : Bool) → (pick b (fitting P Q xs ys entry) (refusing (judge_tables (job_board P) (xs ++ ys)) entry)).outcome ≡ rule_broken place rule
            → judge_tables (job_board P) (xs ++ ys) ≡ rule_broken place rule
        go true z = absurd ((fitting-plain xs ys).0 (ap (λ (o : Outcome). o.code) z))
        go false z = z
    judged-to (answered (walk es)) e = go (eqb (judge_walk (job_board P) es).code 21) e
      where
        go : (b : Bool) → (pick b (refusing (refusal 15 2 0) entry) (refusing (judge_walk (job_board P) es) entry)).outcome ≡ rule_broken place rule
            → judge_walk (job_board P) es ≡ rule_broken place rule
        go true z = absurd (codes-differ (refusal 15 2 0) (rule_broken place rule) (λ q. omega arith) z)
        go false z = z
    judged-to (unanswered w) e = e

    judged-from : (v : AnswerVerdict) → judge (job_board P) v ≡ rule_broken place rule → (judged P Q v entry).outcome ≡ rule_broken place rule
    judged-from (answered (tables xs ys)) e =
        let code : (judge_tables (job_board P) (xs ++ ys)).code ≡ 10 = ap (λ (o : Outcome). o.code) e in
        rw (ne_eqb (judge_tables (job_board P) (xs ++ ys)).code 20 (λ z. omega arith)) e
    judged-from (answered (walk es)) e =
        absurd (walk-not (job_board P) es 10 (λ z. omega arith) (λ z. omega arith) (λ z. omega arith) (ap (λ (o : Outcome). o.code) e))
    judged-from (unanswered w) e = e

  judged-rule : (v : AnswerVerdict) → ((judged P Q v entry).outcome.code ≢ 10) → (judged P Q v entry).outcome.rule ≡ 0
  judged-rule (answered (tables xs ys)) =
      pick-has (λ o. (o.code ≢ 10) → o.rule ≡ 0) (eqb (judge_tables (job_board P) (xs ++ ys)).code 20) (fitting P Q xs ys entry)
      (refusing (judge_tables (job_board P) (xs ++ ys)) entry)
      (λ d. (fitting-plain xs ys).1) (judge-rule (job_board P) (answered (tables xs ys)))
  judged-rule (answered (walk es)) =
      pick-has (λ o. (o.code ≢ 10) → o.rule ≡ 0) (eqb (judge_walk (job_board P) es).code 21) (refusing (refusal 15 2 0) entry)
      (refusing (judge_walk (job_board P) es) entry)
      (λ d. refl) (judge-rule (job_board P) (answered (walk es)))
  judged-rule (unanswered w) = λ d. refl

module _ (f : Form) (p q s entry : List ℕ) where
  module _ (place rule : ℕ) where
    q-to : (P : Job) (v : Verdict) → (with_p P v s entry).outcome ≡ rule_broken place rule → judge_sheet (job_board P) s ≡ rule_broken place rule
    unfolding judge_sheet
    q-to P (accepted Q) e = judged-to P Q entry place rule (verdict_for s P) e
    q-to P (rejected w) e = absurd (sheets-differ (refused_job 3 w) (rule_broken place rule) (λ z. omega arith) e)

    p-to : (v : Verdict) → (with_none f v q s entry).outcome ≡ rule_broken place rule → after_job v s ≡ rule_broken place rule
    p-to (accepted P) e = q-to P (read_job f q) e
    p-to (rejected w) e = e

    pub widen-10 : (widened f p q s entry).outcome ≡ rule_broken place rule → check_outcome f p s ≡ rule_broken place rule
    unfolding widened check_outcome
    widen-10 e = p-to (read_job f p) e

    p-from : (v : Verdict) (Q : Job) → read_job f q ≡ accepted Q → after_job v s ≡ rule_broken place rule → (with_none f v q s entry).outcome ≡ rule_broken place rule
    unfolding judge_sheet
    p-from (accepted P) Q is_q e = rw is_q (judged-from P Q entry place rule (verdict_for s P) e)
    p-from (rejected w) Q is_q e = e

    pub widens-10 : (Q : Job) → read_job f q ≡ accepted Q → check_outcome f p s ≡ rule_broken place rule → (widened f p q s entry).outcome ≡ rule_broken place rule
    unfolding widened check_outcome
    widens-10 Q is_q e = p-from (read_job f p) Q is_q e

  q-rule : (P : Job) (v : Verdict) → ((with_p P v s entry).outcome.code ≢ 10) → (with_p P v s entry).outcome.rule ≡ 0
  q-rule P (accepted Q) d = judged-rule P Q entry (verdict_for s P) d
  q-rule P (rejected w) d = refl

  p-rule : (v : Verdict) → ((with_none f v q s entry).outcome.code ≢ 10) → (with_none f v q s entry).outcome.rule ≡ 0
  p-rule (accepted P) d = q-rule P (read_job f q) d
  p-rule (rejected w) d = refl

  pub widen-rule : ((widened f p q s entry).outcome.code ≢ 10) → (widened f p q s entry).outcome.rule ≡ 0
  unfolding widened
  widen-rule d = p-rule (read_job f p) d
