-- What the checker's outcomes mean.
--     shows             each combination shows a row that the cell has, on every job's board
--     judged-fits       tables get 20 exactly if they fit
--     judged-stands     a walk gets 21 exactly if it stands
--     FitsSheet, check-20      the checker says 20 exactly for the sheet of a pair that fits
--     StandsSheet, check-21    and 21 exactly for the sheet of a walk of 1 to 2,046 entries that stands
--     no-pair           where it says 21 no pair fits
-- Assumes nothing.
use mathlib.Core.Path.{◌≡◌, refl, ap, subst, ◌∙◌}
use mathlib.Core.Bool.{Bool, true, false, not}
use mathlib.Core.List.{List, ◌++◌}
use mathlib.Core.Logic.{◌↔◌, by_cases}
use Prim.Native.Nat.{ℕ, suc, ◌+◌, ◌*◌, ◌-◌, ◌<◌, ◌≤◌}
use native.Mathlib.Decide.{dec_lt}
use native.Mathlib.Omega.{arith}
use borrow.Author.Tests.{lt-ltb, le-ltb, not-false}
use lib.Count.{ones}
use lib.Pow.{pow_pos}
use lib.ListN.{length, get_or, length-append, get_or-append}
use lib.Seq.{get_or-append-add}
use Rattle.wires.proofs.Rows.{row_below}
use Rattle.steps.specs.declared.Outcome.{Outcome}
use Rattle.steps.specs.Outcome.{success, refusal, rule_broken, refused_job, refused_answer}
use Rattle.steps.proofs.Codes.{codes-differ, sheets-differ}
use Rattle.sheet.specs.declared.Form.{Form}
use Rattle.sheet.specs.Job.{Job, Verdict, accepted, rejected}
use Rattle.sheet.specs.JobSheet.{read_job}
use Rattle.answer.specs.Answer.{Entry, tables, walk, AnswerVerdict, answered}
use Rattle.answer.specs.Answer.{rejected as unanswered}
use Rattle.answer.specs.Written.{tables_sheet, walk_sheet, Bytes, IsPair, IsWalk}
use Rattle.answer.proofs.There.{tables-there, walk-there}
use Rattle.answer.proofs.Sheets.{tables-read, walk-read, tables-sheet, walk-sheet}
use Rattle.board.specs.Board.{Board, Shows, rows, opposite}
use Rattle.board.specs.Tables.{held, Tables, Fits, Pair}
use Rattle.board.specs.Walk.{entry, Step, Among, Stands, StandsAt}
use Rattle.board.specs.Tests.{lowest, amongb}
use Rattle.board.specs.JobBoard.{board_of, job_board}
use Rattle.board.specs.Check.{fault_at, rule_at, judge_tables, next_of, step_at, judge_walk, judge, judge_sheet, after_job, check_outcome}
use Rattle.board.proofs.Tests.{stepb-iff, amongb-iff}
use Rattle.board.proofs.Numbered.{stands-iff, among-at, at-among}
use Rattle.board.proofs.Lowest.{lowest-least, lowest-most, lowest-none}
use Rattle.board.proofs.Walks.{soundness}
use Rattle.board.proofs.Codes.{verdict_for, tables-not, walk-not}

pub shows : (n sees_a sees_b : ℕ) (rules excuses : List ℕ) → Shows (board_of n sees_a sees_b rules excuses)
shows n sees_a sees_b rules excuses = record { in_a = λ a l. row_below n sees_a a; in_b = λ a l. row_below n sees_b a }

-- ---- tables

module _ (B : Board) (T : List ℕ) where
  abbrev low : ℕ
  low = lowest (fault_at B T) B.combinations

  fits-to : judge_tables B T ≡ success 20 0 → Fits B T
  unfolding judge_tables
  fits-to e a l =
      lowest-least (fault_at B T) B.combinations a
      (by_cases (dec_lt low B.combinations) (λ h. absurd (codes-differ (rule_broken low (rule_at B T low)) (success 20 0) (λ z. omega arith) (rw (lt-ltb low B.combinations h) at e)))
      (λ ge. omega (arith, lowest-most (fault_at B T) B.combinations)))

  fits-from : Fits B T → judge_tables B T ≡ success 20 0
  unfolding judge_tables
  fits-from f = rw (le-ltb low B.combinations (omega (arith, lowest-none (fault_at B T) B.combinations f)))

  pub judged-fits : (judge_tables B T ≡ success 20 0) ↔ Fits B T
  judged-fits = (fits-to, fits-from)

-- ---- walks

module _ (B : Board) (es : List Entry) (some : 0 < length es) where
  abbrev bad : ℕ → Bool
  bad i = not (step_at B es i)

  abbrev worst : ℕ
  worst = lowest bad (length es)

  abbrev first : ℕ
  first = opposite (entry es 0).says

  next-on : (i : ℕ) → suc i < length es → next_of B es i ≡ suc i
  next-on i l = grind arith

  next_last : (i : ℕ) → i + 1 ≡ length es → next_of B es i ≡ 0
  next_last i e = grind arith

  -- every step of the walk holds
  abbrev All : Type 0
  All = (i : ℕ) → i < length es → step_at B es i ≡ true

  all-at : All → Among first es → StandsAt B es
  all-at all m = record {
    some = some;
    onward = λ i l. subst (λ (k : ℕ). Step B (entry es i).says (entry es k).says (entry es i).by) (next-on i l) ((stepb-iff B _ _ _).0 (all i (omega arith)));
    back =
        subst (λ (k : ℕ). Step B (entry es (length es - 1)).says (entry es k).says (entry es (length es - 1)).by) (next_last (length es - 1) (omega arith))
        ((stepb-iff B _ _ _).0 (all (length es - 1) (omega arith)));
    meets = at-among first es m;
  }

  at_all : StandsAt B es → All
  at_all s i l =
      by_cases (dec_lt (suc i) (length es)) (λ h. rw (next-on i h) ((stepb-iff B _ _ _).1 (s.onward i h)))
      (λ h. let e : i ≡ length es - 1 = omega arith in rw (next_last i (omega arith), e) ((stepb-iff B _ _ _).1 s.back))

  past_all : length es ≤ worst → All
  past_all l i h = not-false (step_at B es i) (lowest-least bad (length es) i (omega arith))

  all_past : All → length es ≤ worst
  all_past all = omega (arith, lowest-none bad (length es) (λ i l. ap not (all i l)))

  stands-to : judge_walk B es ≡ success 21 0 → Stands B es
  unfolding judge_walk
  stands-to e = go (dec_lt worst (length es)) (amongb first es) refl
    where
      go : Dec (worst < length es) → (b : Bool) → amongb first es ≡ b → Stands B es
      go (yes h) b p = absurd (codes-differ (refusal 12 2 worst) (success 21 0) (λ z. omega arith) (rw (lt-ltb worst (length es) h) at e))
      go (no h) true p = (stands-iff B es).1 (all-at (past_all (omega arith)) ((amongb-iff first es).0 p))
      go (no h) false p =
          absurd (codes-differ (refusal 13 2 0) (success 21 0) (λ z. omega arith) (rw (le-ltb worst (length es) (omega arith), p) at e))

  stands_from : Stands B es → judge_walk B es ≡ success 21 0
  unfolding judge_walk
  stands_from s =
      let t = (stands-iff B es).0 s in
      let m = t.meets in
      rw (le-ltb worst (length es) (all_past (at_all t)), (amongb-iff first es).1 (among-at first es m.0 m.1 m.2))

  pub judged-stands : (judge_walk B es ≡ success 21 0) ↔ Stands B es
  judged-stands = (stands-to, stands_from)

-- ---- sheets

-- the answer is the tables sheet of a pair that fits the job's board
pub record FitsSheet (f : Form) (job answer : List ℕ) : Type 0 where
  pub j : Job
  pub read : read_job f job ≡ accepted j
  pub xs : List ℕ
  pub ys : List ℕ
  pub sheet : answer ≡ tables_sheet xs ys
  pub pair : IsPair (job_board j).rows_a (job_board j).rows_b xs ys
  pub fits : Pair (job_board j) (xs ++ ys)

-- the answer is the sheet of a walk that stands on the job's board
pub record StandsSheet (f : Form) (job answer : List ℕ) : Type 0 where
  pub j : Job
  pub read : read_job f job ≡ accepted j
  pub es : List Entry
  pub sheet : answer ≡ walk_sheet es
  pub walks : IsWalk (2 * rows (job_board j)) (job_board j).combinations es
  pub stands : Stands (job_board j) es

-- two tables, one after the other, are a bit for each row
pub joined-tables : (B : Board) (xs ys : List ℕ) → IsPair B.rows_a B.rows_b xs ys → Tables B (xs ++ ys)
joined-tables B xs ys p = record {
  long = length-append xs ys ∙ omega (arith, p.long_a, p.long_b);
  bits = λ r l. by_cases (dec_lt r B.rows_a) (λ h. low r h) (λ h. high r (omega arith) l);
}
  where
    low : (r : ℕ) → r < B.rows_a → held (xs ++ ys) r < 2
    low r h = let l : r < length xs = omega (arith, p.long_a) in rw (get_or-append xs ys 0 r l) (p.bits_a r h)

    high : (r : ℕ) → B.rows_a ≤ r → r < rows B → held (xs ++ ys) r < 2
    high r h l =
        let e : r ≡ length xs + (r - B.rows_a) = omega (arith, p.long_a) in
        let q : get_or (xs ++ ys) r 0 ≡ get_or ys (r - B.rows_a) 0 = ap (λ (k : ℕ). get_or (xs ++ ys) k 0) e ∙ get_or-append-add xs ys (r - B.rows_a) 0 in
        rw q (p.bits_b (r - B.rows_a) (omega arith))

module _ (f : Form) (job answer : List ℕ) (bytes : Bytes answer) where
  judge-20 : (j : Job) → read_job f job ≡ accepted j → (v : AnswerVerdict) → verdict_for answer j ≡ v → judge (job_board j) v ≡ success 20 0 → FitsSheet f job answer
  judge-20 j e (answered (tables xs ys)) p q =
      let t = tables-there _ _ _ answer xs ys p in record {
        j = j;
        read = e;
        xs = xs;
        ys = ys;
        sheet = tables-sheet _ _ _ answer xs ys bytes p;
        pair = t.pair;
        fits = record { tables = joined-tables (job_board j) xs ys t.pair; fits = (judged-fits (job_board j) (xs ++ ys)).0 q };
      }
  judge-20 j e (answered (walk es)) p q = absurd (walk-not (job_board j) es 20 (λ z. omega arith) (λ z. omega arith) (λ z. omega arith) (ap (λ (o : Outcome). o.code) q))
  judge-20 j e (unanswered w) p q = absurd (sheets-differ (refused_answer w) (success 20 0) (λ z. omega arith) q)

  judge-21 : (j : Job) → read_job f job ≡ accepted j → (v : AnswerVerdict) → verdict_for answer j ≡ v → judge (job_board j) v ≡ success 21 0 → StandsSheet f job answer
  judge-21 j e (answered (tables xs ys)) p q = absurd (tables-not (job_board j) (xs ++ ys) 21 (λ z. omega arith) (λ z. omega arith) (ap (λ (o : Outcome). o.code) q))
  judge-21 j e (answered (walk es)) p q =
      let t = walk-there _ _ _ answer es p in record {
        j = j;
        read = e;
        es = es;
        sheet = walk-sheet _ _ _ answer es bytes p;
        walks = t.walks;
        stands = (judged-stands (job_board j) es t.walks.some).0 q;
      }
  judge-21 j e (unanswered w) p q = absurd (sheets-differ (refused_answer w) (success 21 0) (λ z. omega arith) q)

  to-20 : (v : Verdict) → read_job f job ≡ v → after_job v answer ≡ success 20 0 → FitsSheet f job answer
  unfolding judge_sheet
  to-20 (accepted j) e q = judge-20 j e (verdict_for answer j) refl q
  to-20 (rejected w) e q = absurd (sheets-differ (refused_job 1 w) (success 20 0) (λ z. omega arith) q)

  to-21 : (v : Verdict) → read_job f job ≡ v → after_job v answer ≡ success 21 0 → StandsSheet f job answer
  unfolding judge_sheet
  to-21 (accepted j) e q = judge-21 j e (verdict_for answer j) refl q
  to-21 (rejected w) e q = absurd (sheets-differ (refused_job 1 w) (success 21 0) (λ z. omega arith) q)

-- what is written is accepted: these two are what a solver, or any author, needs of the checker
pub accepts-tables : (f : Form) (job : List ℕ) (j : Job) (xs ys : List ℕ) → read_job f job ≡ accepted j → IsPair (job_board j).rows_a (job_board j).rows_b xs ys → Fits (job_board j) (xs ++ ys)
    → check_outcome f job (tables_sheet xs ys) ≡ success 20 0
unfolding check_outcome judge_sheet
accepts-tables f job j xs ys e p fits =
    rw (e, tables-read (job_board j).rows_a (job_board j).rows_b (job_board j).combinations xs ys (pow_pos (ones j.sees_a)) p)
    ((judged-fits (job_board j) (xs ++ ys)).1 fits)

pub accepts-walk : (f : Form) (job : List ℕ) (j : Job) (es : List Entry) → read_job f job ≡ accepted j → IsWalk (2 * rows (job_board j)) (job_board j).combinations es → Stands (job_board j) es
    → check_outcome f job (walk_sheet es) ≡ success 21 0
unfolding check_outcome judge_sheet
accepts-walk f job j es e p s =
    rw (e, walk-read (job_board j).rows_a (job_board j).rows_b (job_board j).combinations es p) ((judged-stands (job_board j) es p.some).1 s)

pub check-20 : (f : Form) (job answer : List ℕ) → Bytes answer → (check_outcome f job answer ≡ success 20 0) ↔ FitsSheet f job answer
unfolding check_outcome
check-20 f job answer bytes = (
  to-20 f job answer bytes (read_job f job) refl,
  λ x. ap (check_outcome f job) x.sheet ∙ accepts-tables f job x.j x.xs x.ys x.read x.pair x.fits.fits,
)

pub check-21 : (f : Form) (job answer : List ℕ) → Bytes answer → (check_outcome f job answer ≡ success 21 0) ↔ StandsSheet f job answer
unfolding check_outcome
check-21 f job answer bytes = (
  to-21 f job answer bytes (read_job f job) refl,
  λ s. ap (check_outcome f job) s.sheet ∙ accepts-walk f job s.j s.es s.read s.walks s.stands,
)

-- if a walk stands, no pair fits
pub no-pair : (f : Form) (job answer : List ℕ) → Bytes answer → (j : Job) → read_job f job ≡ accepted j → check_outcome f job answer ≡ success 21 0 → (T : List ℕ) → Pair (job_board j) T → ⊥
no-pair f job answer bytes j e q T p =
    let s = (check-21 f job answer bytes).0 q in
    let same : s.j ≡ j = cc s.read in
    soundness (job_board j) (shows _ _ _ _ _) s.es (subst (λ (k : Job). Stands (job_board k) s.es) same s.stands) T p
