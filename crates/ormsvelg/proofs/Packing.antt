-- Packing loses nothing that is handed over, for every outcome that the library gives.
--     unpack-pack    what is handed over of an outcome of small numbers is found again in its number
--     plain-found    and that is all of it where the rule is 0
--     read-packs     each outcome of the reader has small numbers
--     read_found     so it is found again
--     write-packs, write-found       the same for the writer
--     solve-packs, solve-found       and for the solver
--     move-packs, move-found         and for the mover
--     check-packs, check-found       for the checker, what is handed over is found again
--     widen-packs, widen-found       and for the widener
-- Assumes nothing.
use mathlib.Core.Path.{◌≡◌, refl, sym, ap, subst, ◌∙◌}
use mathlib.Core.Bool.{Bool, true, false, not}
use mathlib.Core.List.{List, [], ◌∷◌, ◌++◌}
use Prim.Native.Nat.{ℕ, ◌+◌, ◌*◌, ◌/◌, ◌%◌, ◌^◌, ◌<◌, ◌≤◌}
use native.Mathlib.Omega.{arith}
use borrow.Author.Tests.{ltb-true}
use lib.Dec.{ltb, leb, eqb}
use lib.ListN.{length, get_or, take}
use lib.Seq.{length-take-le}
use lib.Pow.{pow_mono}
use Rattle.std.specs.Prelude.{Ok, Err}
use Rattle.steps.specs.declared.Refusal.{Refusal}
use Rattle.steps.specs.declared.Outcome.{Outcome}
use Rattle.sheet.specs.declared.Form.{Form}
use Rattle.sheet.specs.declared.Form.TheVariants.{One, Two}
use Rattle.sheet.specs.Job.{Job, Verdict, accepted, rejected}
use Rattle.steps.specs.Step.{pick}
use Rattle.steps.specs.Outcome.{code_of, answer_code_of, place_of, success, refusal, rule_broken, refused_job, refusing, writing}
use Rattle.steps.proofs.Codes.{code-bounds, answer-code-bounds}
use Rattle.steps.proofs.Endings.{pick-has}
use Rattle.sheet.specs.JobSheet.{read_job, outcome_of, read_outcome}
use Rattle.sheet.proofs.Length.{place-small, accepted-short}
use Rattle.sheet.proofs.Forms.{form-two}
use Rattle.sheet.proofs.Laws.{job-bounds, seen-bounds}
use Rattle.answer.specs.Answer.{Entry, tables, walk, AnswerVerdict, answered}
use Rattle.answer.specs.Answer.{rejected as unanswered}
use Rattle.answer.specs.AnswerSheet.{read_answer}
use Rattle.answer.specs.AnswerSheet.{longest as longest_answer}
use Rattle.answer.proofs.There.{walk-there}
use Rattle.answer.proofs.Length.{place-small as answer-place-small}
use Rattle.writer.specs.JobWritten.{job_sheet}
use Rattle.writer.specs.Writing.{Judged, write_outcome}
use Rattle.writer.specs.Writing.{judge as judge_job, outcome_of as outcome_written}
use Rattle.writer.proofs.Small.{Small, judge-small, sheet-small}
use Rattle.board.specs.Board.{Board, opposite}
use Rattle.board.specs.Walk.{entry}
use Rattle.board.specs.Tests.{lowest, amongb}
use Rattle.board.specs.JobBoard.{job_board}
use Rattle.board.specs.Check.{fault_at, rule_at, step_at, tables_at, walk_at, judge_tables, judge_walk, judge, judge_sheet, after_job, check_outcome}
use Rattle.board.proofs.Codes.{verdict_for}
use Rattle.answer.specs.Written.{two, tables_sheet, walk_sheet}
use Rattle.answer.proofs.Sheets.{tables-length, walk-length}
use Rattle.solver.specs.Solved.{SolvedOn, Solved, refused, no_room, solved}
use Rattle.solver.specs.Solved.{tables as tabled, walk as walked}
use Rattle.asking.specs.Asks.{asksb}
use Rattle.widener.specs.Table.{narrow_row, widen_table, widen_sheet}
use Rattle.widener.specs.Widened.{fitting, judged, with_p, with_none, widened}
use Rattle.widener.proofs.Tabling.{tabled-length}
use Rattle.mover.specs.Moved.{excuses_at, to_two, without, to_one, put, ending, moved_to, moving}
use Rattle.mover.proofs.Front.{inside}
use Rattle.ormsvelg.specs.Packed.{pack, unpack, handed, Packs}
use Rattle.ormsvelg.proofs.Plain.{read-rule, write-rule, solve-rule, move-rule}

module _ (c s p w : ℕ) (hc : c < 2 ^ 8) (hs : s < 2 ^ 8) (hp : p < 2 ^ 24) where
  abbrev number : ℕ
  number = c + 2 ^ 8 * s + 2 ^ 16 * p + 2 ^ 40 * w

  code_in : number % 2 ^ 8 ≡ c
  code_in = omega arith

  sheet-in : number / 2 ^ 8 % 2 ^ 8 ≡ s
  sheet-in = omega arith

  place_in : number / 2 ^ 16 % 2 ^ 24 ≡ p
  place_in = omega arith

  written_in : number / 2 ^ 40 ≡ w
  written_in = omega arith

pub unpack-pack : (o : Outcome) → Packs o → unpack (pack o) ≡ handed o
unpack-pack o h = λ i.
    record {
      code = code_in o.code o.sheet o.place o.written h.code h.sheet h.place i;
      sheet = sheet-in o.code o.sheet o.place o.written h.code h.sheet h.place i;
      place = place_in o.code o.sheet o.place o.written h.code h.sheet h.place i;
      written = written_in o.code o.sheet o.place o.written h.code h.sheet h.place i;
      rule = 0;
    }

plain-found : (o : Outcome) → Packs o → o.rule ≡ 0 → unpack (pack o) ≡ o
plain-found o h e = unpack-pack o h ∙ (λ i. record { code = o.code; sheet = o.sheet; place = o.place; written = o.written; rule = sym e i })

code-small : (w : Refusal) → code_of w < 2 ^ 8
code-small w = omega (arith, code-bounds w)

refusal-packs : (c s p : ℕ) → c < 2 ^ 8 → s < 2 ^ 8 → p < 2 ^ 24 → Packs (refusal c s p)
refusal-packs c s p hc hs hp = record { code = hc; sheet = hs; place = hp; written = omega arith }

success-packs : (c w : ℕ) → c < 2 ^ 8 → w < 2 ^ 24 → Packs (success c w)
success-packs c w hc hw = record { code = hc; sheet = omega arith; place = omega arith; written = hw }

-- where a job is refused, in either form
place-packs : (f : Form) (s : List ℕ) (w : Refusal) → read_job f s ≡ rejected w → place_of w < 2 ^ 24
place-packs One s w e = omega (arith, place-small One s w e)
place-packs Two s w e = omega (arith, place-small Two s w e)

-- a refusal of a job sheet, in either form, told as that of the sheet n
refused-packs : (f : Form) (s : List ℕ) (w : Refusal) (n : ℕ) → n < 2 ^ 8 → read_job f s ≡ rejected w → Packs (refused_job n w)
refused-packs f s w n l e = refusal-packs (code_of w) n (place_of w) (code-small w) l (place-packs f s w e)

verdict-packs : (f : Form) (s : List ℕ) (v : Verdict) → read_job f s ≡ v → Packs (outcome_of v)
verdict-packs f s (accepted j) e = success-packs 0 0 (omega arith) (omega arith)
verdict-packs f s (rejected w) e = refused-packs f s w 1 (omega arith) e

pub read-packs : (f : Form) (s : List ℕ) → Packs (read_outcome f s)
unfolding read_outcome
read-packs f s = verdict-packs f s (read_job f s) refl

pub read_found : (f : Form) (s : List ℕ) → unpack (pack (read_outcome f s)) ≡ read_outcome f s
read_found f s = plain-found (read_outcome f s) (read-packs f s) (read-rule f s)

-- ---- the checker

pick-packs : (b : Bool) (o p : Outcome) → (b ≡ true → Packs o) → Packs p → Packs (pick b o p)
pick-packs true o p f g = f refl
pick-packs false o p f g = g

module _ (B : Board) (few : B.combinations ≤ 2 ^ 12) (few_a : B.rows_a ≤ 256) (few_b : B.rows_b ≤ 256) (s : List ℕ) where
  tables-packs : (rule : ℕ → ℕ) (m : ℕ) → Packs (tables_at B rule m)
  tables-packs rule m =
      pick-packs (ltb m B.combinations) (rule_broken m (rule m)) (success 20 0)
      (λ e. record { code = omega arith; sheet = omega arith; place = omega (arith, ltb-true m B.combinations e); written = omega arith })
      (success-packs 20 0 (omega arith) (omega arith))

  walk-packs : (es : List Entry) (m : ℕ) → length es ≤ 2046 → Packs (walk_at B es m)
  walk-packs es m l =
      pick-packs (ltb m (length es)) (refusal 12 2 m) _
      (λ e. refusal-packs 12 2 m (omega arith) (omega arith) (omega (arith, ltb-true m (length es) e)))
      (pick-packs (amongb (opposite (entry es 0).says) es) (success 21 0) (refusal 13 2 0) (λ e. success-packs 21 0 (omega arith) (omega arith))
      (refusal-packs 13 2 0 (omega arith) (omega arith) (omega arith)))

  judge-packs : (v : AnswerVerdict) → read_answer B.rows_a B.rows_b B.combinations s ≡ v → Packs (judge B v)
  unfolding judge_tables judge_walk
  judge-packs (answered (tables xs ys)) e = tables-packs (rule_at B (xs ++ ys)) (lowest (fault_at B (xs ++ ys)) B.combinations)
  judge-packs (answered (walk es)) e = walk-packs es (lowest (λ i. not (step_at B es i)) (length es)) (walk-there _ _ _ s es e).walks.most
  judge-packs (unanswered w) e =
      refusal-packs (answer_code_of w) 2 (place_of w) (omega (arith, (answer-code-bounds w).0)) (omega arith) (omega (arith, answer-place-small _ _ _ s w few_a few_b e))

after-packs : (f : Form) (job answer : List ℕ) (v : Verdict) → read_job f job ≡ v → Packs (after_job v answer)
unfolding judge_sheet
after-packs f job answer (accepted j) e =
    let b = job-bounds f job j e in
    let m = seen-bounds f job j e in
    judge-packs (job_board j) (pow_mono b.0) (pow_mono m.0) (pow_mono m.1) answer
    (verdict_for answer j) refl
after-packs f job answer (rejected w) e =
    refused-packs f job w 1 (omega arith) e

pub check-packs : (f : Form) (job answer : List ℕ) → Packs (check_outcome f job answer)
unfolding check_outcome
check-packs f job answer = after-packs f job answer (read_job f job) refl

pub check-found : (f : Form) (job answer : List ℕ) → unpack (pack (check_outcome f job answer)) ≡ handed (check_outcome f job answer)
check-found f job answer = unpack-pack (check_outcome f job answer) (check-packs f job answer)

-- ---- the solver

on-packs : (B : Board) (entry : List ℕ) (o : Outcome) (exit : List ℕ) → B.rows_a ≤ 256 → B.rows_b ≤ 256 → SolvedOn B entry o exit → Packs o
on-packs B entry o exit la lb (tabled xs ys p f e w) =
    rw e (success-packs 20 (length (tables_sheet xs ys)) (omega arith) (omega (arith, tables-length xs ys, p.long_a, p.long_b)))
on-packs B entry o exit la lb (walked es p st l e w) =
    rw e (success-packs 21 (length (walk_sheet es)) (omega arith) (omega (arith, walk-length es, p.most)))

pub solve-packs : {form : Form} {job entry : List ℕ} {o : Outcome} {exit : List ℕ} → Solved form job entry o exit → Packs o
solve-packs {form} {job} {entry} {o} {exit} (refused w e p q) =
    rw p (refused-packs form job w 1 (omega arith) e)
solve-packs {form} {job} {entry} {o} {exit} (no_room j e l p q) = rw p (refusal-packs 6 0 0 (omega arith) (omega arith) (omega arith))
solve-packs {form} {job} {entry} {o} {exit} (solved j e l s) =
    let m = seen-bounds form job j e in
    on-packs (job_board j) entry o exit (pow_mono m.0) (pow_mono m.1) s

pub solve-found : (form : Form) (job entry : List ℕ) (o : Outcome) (exit : List ℕ) (r : ℕ) → r ≡ pack o → Solved form job entry o exit → Solved form job entry (unpack r) exit
solve-found form job entry o exit r e s =
    subst (λ (x : Outcome). Solved form job entry x exit) (sym (ap unpack e ∙ plain-found o (solve-packs s) (solve-rule s))) s

-- ---- the widener

module _ (P Q : Job) (s entry : List ℕ) (few : (job_board P).combinations ≤ 2 ^ 12) (few_a : (job_board P).rows_a ≤ 256) (few_b : (job_board P).rows_b ≤ 256)
    (wide-a : (job_board Q).rows_a ≤ 256) (wide-b : (job_board Q).rows_b ≤ 256) where
  sheet-packs : (xs ys : List ℕ) → length (widen_sheet P Q xs ys) < 2 ^ 24
  sheet-packs xs ys =
      let a = tabled-length (λ r. get_or xs (narrow_row (length Q.pins) P.sees_a Q.sees_a r) 0) 0 (job_board Q).rows_a in
      let b = tabled-length (λ r. get_or ys (narrow_row (length Q.pins) P.sees_b Q.sees_b r) 0) 0 (job_board Q).rows_b in
      omega (arith, tables-length (widen_table (length Q.pins) P.sees_a Q.sees_a xs) (widen_table (length Q.pins) P.sees_b Q.sees_b ys))

  judged-packs : (v : AnswerVerdict) → read_answer (job_board P).rows_a (job_board P).rows_b (job_board P).combinations s ≡ v → Packs (judged P Q v entry).outcome
  judged-packs (answered (tables xs ys)) e =
      pick-has Packs (eqb (judge_tables (job_board P) (xs ++ ys)).code 20) (fitting P Q xs ys entry) (refusing (judge_tables (job_board P) (xs ++ ys)) entry)
      (pick-has Packs (asksb P Q) (pick (ltb (length entry) longest_answer) (refusing (refusal 6 0 0) entry) (writing 20 (widen_sheet P Q xs ys) entry)) (refusing (refusal 14 3 0) entry)
      (pick-has Packs (ltb (length entry) longest_answer) (refusing (refusal 6 0 0) entry) (writing 20 (widen_sheet P Q xs ys) entry)
      (refusal-packs 6 0 0 (omega arith) (omega arith) (omega arith)) (success-packs 20 (length (widen_sheet P Q xs ys)) (omega arith) (sheet-packs xs ys)))
      (refusal-packs 14 3 0 (omega arith) (omega arith) (omega arith)))
      (judge-packs (job_board P) few few_a few_b s (answered (tables xs ys)) e)
  judged-packs (answered (walk es)) e =
      pick-has Packs (eqb (judge_walk (job_board P) es).code 21) (refusing (refusal 15 2 0) entry) (refusing (judge_walk (job_board P) es) entry)
      (refusal-packs 15 2 0 (omega arith) (omega arith) (omega arith))
      (judge-packs (job_board P) few few_a few_b s (answered (walk es)) e)
  judged-packs (unanswered w) e = judge-packs (job_board P) few few_a few_b s (unanswered w) e

q-packs : (f : Form) (p q s entry : List ℕ) (P : Job) → read_job f p ≡ accepted P → (v : Verdict) → read_job f q ≡ v → Packs (with_p P v s entry).outcome
q-packs f p q s entry P is_p (accepted Q) e =
    let b = job-bounds f p P is_p in
    let m = seen-bounds f p P is_p in
    let k = seen-bounds f q Q e in
    judged-packs P Q s entry (pow_mono b.0) (pow_mono m.0) (pow_mono m.1) (pow_mono k.0) (pow_mono k.1)
    (verdict_for s P) refl
q-packs f p q s entry P is_p (rejected w) e =
    refused-packs f q w 3 (omega arith) e

p-packs : (f : Form) (p q s entry : List ℕ) (v : Verdict) → read_job f p ≡ v → Packs (with_none f v q s entry).outcome
p-packs f p q s entry (accepted P) e = q-packs f p q s entry P e (read_job f q) refl
p-packs f p q s entry (rejected w) e =
    refused-packs f p w 1 (omega arith) e

pub widen-packs : (f : Form) (p q s entry : List ℕ) → Packs (widened f p q s entry).outcome
unfolding widened
widen-packs f p q s entry = p-packs f p q s entry (read_job f p) refl

pub widen-found : (f : Form) (p q s entry : List ℕ) → unpack (pack (widened f p q s entry).outcome) ≡ handed (widened f p q s entry).outcome
widen-found f p q s entry = unpack-pack (widened f p q s entry).outcome (widen-packs f p q s entry)

-- ---- the writer

written-packs : (g : Judged) (long : ℕ) → Small g → (g ≡ Ok tt → long < 65536) → Packs (outcome_written g long)
written-packs (Ok u) long h l = success-packs 0 long (omega arith) (omega (arith, l refl))
written-packs (Err a) long h l = record { code = omega (arith, h.code); sheet = omega (arith, h.section); place = omega (arith, h.place); written = omega (arith, h.written) }

pub write-packs : (j : Job) (room : ℕ) → Packs (write_outcome j room)
unfolding write_outcome
write-packs j room = written-packs (judge_job j room) (length (job_sheet j)) (judge-small j room) (sheet-small j room)

pub write-found : (j : Job) (room : ℕ) → unpack (pack (write_outcome j room)) ≡ write_outcome j room
write-found j room = plain-found (write_outcome j room) (write-packs j room) (write-rule j room)

-- ---- the mover

put-packs : (t entry : List ℕ) → length t < 2 ^ 24 → Packs (put t entry).outcome
put-packs t entry l =
    pick-has Packs (leb (length t) (length entry)) (writing 0 t entry) (refusing (refusal 6 0 0) entry) (success-packs 0 (length t) (omega arith) l)
    (refusal-packs 6 0 0 (omega arith) (omega arith) (omega arith))

module _ (s entry : List ℕ) where
  two-packs : (v : Verdict) → read_job One s ≡ v → Packs (ending (to_two v s) entry).outcome
  two-packs (accepted j) e = put-packs (s ++ two 0) entry (omega (arith, accepted-short Two (s ++ two 0) j (form-two s j e)))
  two-packs (rejected w) e = refused-packs One s w 1 (omega arith) e

  none-packs : (j : Job) → read_job Two s ≡ accepted j → (es : List ℕ) → Packs (ending (without es s) entry).outcome
  none-packs j e [] =
      let short = accepted-short Two s j e in
      put-packs (take (excuses_at s) s) entry (omega (arith, inside s j e, length-take-le (excuses_at s) s (omega (arith, inside s j e))))
  none-packs j e (x ∷ es) = refusal-packs 16 1 (excuses_at s) (omega arith) (omega arith) (omega (arith, inside s j e, accepted-short Two s j e))

  one-packs : (v : Verdict) → read_job Two s ≡ v → Packs (ending (to_one v s) entry).outcome
  one-packs (accepted j) e = none-packs j e j.excuses
  one-packs (rejected w) e = refused-packs Two s w 1 (omega arith) e

  pub move-packs : (f : Form) → Packs (moving f s entry).outcome
  unfolding moving moved_to
  move-packs One = one-packs (read_job Two s) refl
  move-packs Two = two-packs (read_job One s) refl

  pub move-found : (f : Form) → unpack (pack (moving f s entry).outcome) ≡ (moving f s entry).outcome
  move-found f = plain-found (moving f s entry).outcome (move-packs f) (move-rule f s entry)
