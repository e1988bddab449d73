-- Only code 10 names a rule: what the reader, the writer, the solver and the mover say carries the rule 0 (document 02, request 4).
-- For the checker and the widener see `check-rule` of board and `widen-rule` of widener.
--     read-rule, write-rule, solve-rule, move-rule
-- Assumes nothing.
use mathlib.Core.Path.{◌≡◌, refl, ap}
use mathlib.Core.List.{List, [], ◌∷◌, ◌++◌}
use Prim.Native.Nat.{ℕ}
use lib.Dec.{leb}
use lib.ListN.{length, take}
use Rattle.std.specs.Prelude.{Ok, Err}
use Rattle.steps.specs.declared.Outcome.{Outcome}
use Rattle.steps.specs.Outcome.{refusal, refusing, writing}
use Rattle.steps.proofs.Endings.{pick-has}
use Rattle.sheet.specs.declared.Form.{Form}
use Rattle.sheet.specs.declared.Form.TheVariants.{One, Two}
use Rattle.sheet.specs.Job.{Job, Verdict, accepted, rejected}
use Rattle.sheet.specs.JobSheet.{read_job, outcome_of, read_outcome}
use Rattle.answer.specs.Written.{two}
use Rattle.board.specs.Board.{Board}
use Rattle.writer.specs.JobWritten.{job_sheet}
use Rattle.writer.specs.Writing.{Judged, write_outcome}
use Rattle.writer.specs.Writing.{judge as judge_job, outcome_of as outcome_written}
use Rattle.writer.proofs.Small.{Small, judge-small}
use Rattle.solver.specs.Solved.{SolvedOn, Solved, refused, no_room, solved}
use Rattle.solver.specs.Solved.{tables as tabled, walk as walked}
use Rattle.mover.specs.Moved.{excuses_at, to_two, without, to_one, put, ending, moved_to, moving}

pub read-rule : (f : Form) (s : List ℕ) → (read_outcome f s).rule ≡ 0
unfolding read_outcome
read-rule f s = go (read_job f s)
  where
    go : (v : Verdict) → (outcome_of v).rule ≡ 0
    go (accepted j) = refl
    go (rejected w) = refl

pub write-rule : (j : Job) (room : ℕ) → (write_outcome j room).rule ≡ 0
unfolding write_outcome
write-rule j room = go (judge_job j room) (length (job_sheet j)) (judge-small j room)
  where
    go : (g : Judged) (long : ℕ) → Small g → (outcome_written g long).rule ≡ 0
    go (Ok u) long h = refl
    go (Err a) long h = h.rule

on-rule : {B : Board} {entry : List ℕ} {o : Outcome} {exit : List ℕ} → SolvedOn B entry o exit → o.rule ≡ 0
on-rule (tabled xs ys p f e w) = ap (λ (o : Outcome). o.rule) e
on-rule (walked es p st l e w) = ap (λ (o : Outcome). o.rule) e

pub solve-rule : {form : Form} {job entry : List ℕ} {o : Outcome} {exit : List ℕ} → Solved form job entry o exit → o.rule ≡ 0
solve-rule (refused w e p q) = ap (λ (o : Outcome). o.rule) p
solve-rule (no_room j e l p q) = ap (λ (o : Outcome). o.rule) p
solve-rule (solved j e l s) = on-rule s

module _ (s entry : List ℕ) where
  put-rule : (t : List ℕ) → (put t entry).outcome.rule ≡ 0
  put-rule t = pick-has (λ o. o.rule ≡ 0) (leb (length t) (length entry)) (writing 0 t entry) (refusing (refusal 6 0 0) entry) refl refl

  two-rule : (v : Verdict) → (ending (to_two v s) entry).outcome.rule ≡ 0
  two-rule (accepted j) = put-rule (s ++ two 0)
  two-rule (rejected w) = refl

  without-rule : (es : List ℕ) → (ending (without es s) entry).outcome.rule ≡ 0
  without-rule [] = put-rule (take (excuses_at s) s)
  without-rule (e ∷ es) = refl

  one-rule : (v : Verdict) → (ending (to_one v s) entry).outcome.rule ≡ 0
  one-rule (accepted j) = without-rule j.excuses
  one-rule (rejected w) = refl

pub move-rule : (f : Form) (s entry : List ℕ) → (moving f s entry).outcome.rule ≡ 0
unfolding moving moved_to
move-rule One s entry = one-rule s entry (read_job Two s)
move-rule Two s entry = two-rule s entry (read_job One s)
