-- The tests of the cases mean what they are named after.
--     sameb-true, outcomeb-true     two lists, two outcomes are equal
--     noneb-none     of the pairs that begin so none fits
--     leastb-least, firstb-first    the pair is the first that fits
--     passes-holds   a case that passes holds
-- Assumes nothing.
use mathlib.Core.Path.{◌≡◌, refl, sym, ap, ◌∙◌}
use mathlib.Core.Bool.{true, ◌||◌, false≢true, true≢false, and-eq-true_iff}
use mathlib.Core.List.{List, [], ◌∷◌, ◌++◌, append_assoc, append-nil}
use mathlib.Core.Logic.{◌⊎◌, inl, inr}
use Prim.Native.Nat.{ℕ, zero, suc, ◌<◌, ◌≤◌}
use native.Mathlib.Omega.{arith}
use lib.Dec.{eqb}
use lib.ListN.{length, drop}
use borrow.Author.Tests.{eqb-true, le-ltb, not-true}
use Rattle.steps.specs.declared.Outcome.{Outcome}
use Rattle.steps.specs.Outcome.{success, writing}
use Rattle.sheet.specs.declared.Form.{Form}
use Rattle.sheet.specs.Job.{Job, Verdict, accepted, rejected}
use Rattle.sheet.specs.JobSheet.{read_job}
use Rattle.answer.specs.Answer.{Entry, tables, walk, AnswerVerdict, answered}
use Rattle.answer.specs.Answer.{rejected as unanswered}
use Rattle.answer.specs.AnswerSheet.{longest}
use Rattle.answer.specs.Written.{tables_sheet, walk_sheet, IsPair}
use Rattle.answer.proofs.There.{tables-there}
use Rattle.board.specs.Board.{Board, rows}
use Rattle.board.specs.Tables.{held, Tables, Fits, Pair, First, NotAfter}
use Rattle.board.specs.Walk.{Stands}
use Rattle.board.specs.Tests.{fitsb}
use Rattle.board.specs.JobBoard.{job_board}
use Rattle.board.specs.Check.{judge_tables}
use Rattle.wires.proofs.Sets.{or_cases}
use Rattle.board.proofs.Tests.{fitsb-iff, standsb-iff}
use Rattle.board.proofs.Checked.{joined-tables}
use Rattle.solver.specs.Solved.{Wrote, Solved}
use Rattle.solver.specs.Solved as solver
use Rattle.solver.proofs.Demand.{tables-iff, walk-stands, SameEnding, same-ending}
use Rattle.asking.specs.Asks.{asksb}
use Rattle.widener.specs.Table.{widen_sheet}
use Rattle.widener.specs.Widened.{judged, with_p, with_none, widened}
use Rattle.shown.specs.Cases.{Case, solves, walks, stands, judges, widens, OnBoard, Solves, Walks, Holds}
use Rattle.shown.proofs.Tests.{sameb, outcomeb, noneb, leastb, firstb, first_sheet_b, read, solvesb, walksb, stands_on_b, judgesb, widens_with_b, widens_to_b, widensb, passes}

-- ---- equal lists and outcomes

pub sameb-true : (xs ys : List ℕ) → sameb xs ys ≡ true → xs ≡ ys
unfolding sameb
sameb-true [] [] e = refl
sameb-true [] (y ∷ ys) e = absurd (false≢true e)
sameb-true (x ∷ xs) [] e = absurd (false≢true e)
sameb-true (x ∷ xs) (y ∷ ys) e =
    let t = (and-eq-true_iff (eqb x y) (sameb xs ys)).0 e in
    let p : x ≡ y = eqb-true x y t.0 in
    let q : xs ≡ ys = sameb-true xs ys t.1 in
    cc

pub outcomeb-true : (o p : Outcome) → outcomeb o p ≡ true → o ≡ p
outcomeb-true o p e =
    let t = (and-eq-true_iff (eqb o.code p.code) _).0 e in
    let u = (and-eq-true_iff (eqb o.sheet p.sheet) _).0 t.1 in
    let v = (and-eq-true_iff (eqb o.place p.place) _).0 u.1 in
    let c : o.code ≡ p.code = eqb-true _ _ t.0 in
    let s : o.sheet ≡ p.sheet = eqb-true _ _ u.0 in
    let a : o.place ≡ p.place = eqb-true _ _ v.0 in
    let x = (and-eq-true_iff (eqb o.written p.written) _).0 v.1 in
    let w : o.written ≡ p.written = eqb-true _ _ x.0 in
    let r : o.rule ≡ p.rule = eqb-true _ _ x.1 in
    λ i. record { code = c i; sheet = s i; place = a i; written = w i; rule = r i }

-- ---- the first fitting pair

-- each row holds a bit
abbrev Bits : List ℕ → Type 0
Bits U = (r : ℕ) → r < length U → held U r < 2

rest-bits : (u : ℕ) (U : List ℕ) → Bits (u ∷ U) → Bits U
rest-bits u U bits r l = bits (suc r) (omega arith)

zero-or-one : (u : ℕ) → u < 2 → (u ≡ 0) ⊎ (u ≡ 1)
zero-or-one zero l = inl refl
zero-or-one (suc zero) l = inr refl
zero-or-one (suc (suc u)) l = absurd (omega arith)

module _ (B : Board) where
  -- one more row is settled
  settle : (settled U : List ℕ) (u v : ℕ) → u ≡ v → Fits B (settled ++ u ∷ U) → Fits B ((settled ++ v ∷ []) ++ U)
  settle settled U u v e f = rw (append_assoc, ← e) f

  pub noneb-none : (settled : List ℕ) (k : ℕ) → noneb B settled k ≡ true → (U : List ℕ) → length U ≡ k → Bits U → Fits B (settled ++ U) → ⊥
  unfolding noneb
  noneb-none settled zero e [] l bits f = true≢false (sym ((fitsb-iff B settled).1 (rw append-nil at f)) ∙ not-true (fitsb B settled) e)
  noneb-none settled zero e (u ∷ U) l bits f = absurd (omega arith)
  noneb-none settled (suc k) e [] l bits f = absurd (omega arith)
  noneb-none settled (suc k) e (zero ∷ U) l bits f =
      let t = (and-eq-true_iff (noneb B (settled ++ 0 ∷ []) k) (noneb B (settled ++ 1 ∷ []) k)).0 e in
      noneb-none (settled ++ 0 ∷ []) k t.0 U (omega arith) (rest-bits 0 U bits) (settle settled U 0 0 refl f)
  noneb-none settled (suc k) e (suc zero ∷ U) l bits f =
      let t = (and-eq-true_iff (noneb B (settled ++ 0 ∷ []) k) (noneb B (settled ++ 1 ∷ []) k)).0 e in
      noneb-none (settled ++ 1 ∷ []) k t.1 U (omega arith) (rest-bits 1 U bits) (settle settled U 1 1 refl f)
  noneb-none settled (suc k) e (suc (suc u) ∷ U) l bits f = absurd (omega (arith, bits 0 (omega arith)))

  pub leastb-least : (settled T : List ℕ) → leastb B settled T ≡ true → Bits T → (U : List ℕ) → length U ≡ length T → Bits U → Fits B (settled ++ U)
      → (r : ℕ) → r < length T → ((i : ℕ) → i < r → held T i ≡ held U i) → held T r ≤ held U r
  unfolding leastb
  leastb-least settled [] e bits_t U l bits f r h same = absurd (omega arith)
  leastb-least settled (b ∷ T) e bits_t [] l bits f r h same = absurd (omega arith)
  leastb-least settled (b ∷ T) e bits_t (u ∷ U) l bits f zero h same = go (or_cases _ _ t.0) (zero-or-one u (bits 0 (omega arith)))
    where
      t : ((eqb b 0 || noneb B (settled ++ 0 ∷ []) (length T)) ≡ true) × (leastb B (settled ++ b ∷ []) T ≡ true)
      t = (and-eq-true_iff _ _).0 e

      go : (eqb b 0 ≡ true) ⊎ (noneb B (settled ++ 0 ∷ []) (length T) ≡ true) → (u ≡ 0) ⊎ (u ≡ 1) → b ≤ u
      go (inl z) v = omega (arith, eqb-true b 0 z)
      go (inr n) (inl v) = absurd (noneb-none (settled ++ 0 ∷ []) (length T) n U (omega arith) (rest-bits u U bits) (settle settled U u 0 v f))
      go (inr n) (inr v) = omega (arith, bits_t 0 (omega arith))
  leastb-least settled (b ∷ T) e bits_t (u ∷ U) l bits f (suc r) h same =
      let t = (and-eq-true_iff (eqb b 0 || noneb B (settled ++ 0 ∷ []) (length T)) (leastb B (settled ++ b ∷ []) T)).0 e in
      leastb-least (settled ++ b ∷ []) T t.1 (rest-bits b T bits_t) U (omega arith) (rest-bits u U bits)
      (settle settled U u b (sym (same 0 (omega arith))) f) r (omega arith) (λ i k. same (suc i) (omega arith))

  table-bits : (T : List ℕ) → Tables B T → Bits T
  table-bits T t r l = t.bits r (omega (arith, t.long))

  pub firstb-first : (T : List ℕ) → Tables B T → firstb B T ≡ true → First B T
  firstb-first T is e = record { pair = record { tables = is; fits = (fitsb-iff B T).0 t.0 }; least = least }
    where
      t : (fitsb B T ≡ true) × (leastb B [] T ≡ true)
      t = (and-eq-true_iff _ _).0 e

      least : (U : List ℕ) → Pair B U → NotAfter B T U
      least U p r l same =
          leastb-least [] T t.1 (table-bits T is) U (omega (arith, is.long, p.tables.long)) (table-bits U p.tables) p.fits
          r (omega (arith, is.long)) same

-- ---- the solver

-- the first pair decides how the solver ends
first-solves : (form : Form) (job : List ℕ) (j : Job) → read_job form job ≡ accepted j → (xs ys : List ℕ) → IsPair (job_board j).rows_a (job_board j).rows_b xs ys
    → First (job_board j) (xs ++ ys) → (sheet : List ℕ) → sheet ≡ tables_sheet xs ys → Solves form job sheet
first-solves form job j is xs ys p f sheet e entry o exit room s =
    go (same-ending s (solver.solved j is room (solver.tables xs ys p f (ap (λ (t : List ℕ). success 20 (length t)) e) (ap (λ (t : List ℕ). t ++ drop (length t) entry) e))))
  where
    go : SameEnding o (success 20 (length sheet)) exit (sheet ++ drop (length sheet) entry) → (o ≡ success 20 (length sheet)) × Wrote sheet entry exit
    go (inl same) = same
    go (inr both) = absurd (omega (arith, both.1))

sheet-solves : (form : Form) (job : List ℕ) (j : Job) → read_job form job ≡ accepted j → (sheet : List ℕ) (v : AnswerVerdict) → read (job_board j) sheet ≡ v
    → first_sheet_b (job_board j) v sheet ≡ true → Solves form job sheet
sheet-solves form job j is sheet (answered (tables xs ys)) r e =
    let t = (and-eq-true_iff (sameb sheet (tables_sheet xs ys)) (firstb (job_board j) (xs ++ ys))).0 e in
    let p = (tables-there _ _ _ sheet xs ys r).pair in
    first-solves form job j is xs ys p (firstb-first (job_board j) (xs ++ ys) (joined-tables (job_board j) xs ys p) t.1)
    sheet (sameb-true sheet (tables_sheet xs ys) t.0)
sheet-solves form job j is sheet (answered (walk es)) r e = absurd (false≢true e)
sheet-solves form job j is sheet (unanswered w) r e = absurd (false≢true e)

solves-holds : (form : Form) (job sheet : List ℕ) (v : Verdict) → read_job form job ≡ v → solvesb v sheet ≡ true → Solves form job sheet
solves-holds form job sheet (accepted j) is e = sheet-solves form job j is sheet (read (job_board j) sheet) refl e
solves-holds form job sheet (rejected w) is e = absurd (false≢true e)

walks-holds : (form : Form) (job : List ℕ) (v : Verdict) → read_job form job ≡ v → walksb v ≡ true → Walks form job
walks-holds form job (accepted j) is e = ((j, is, none), ends)
  where
    none : (T : List ℕ) → Pair (job_board j) T → ⊥
    none T p = noneb-none (job_board j) [] (rows (job_board j)) e T p.tables.long (table-bits (job_board j) T p.tables) p.fits

    ends : (entry : List ℕ) (o : Outcome) (exit : List ℕ) → longest ≤ length entry → Solved form job entry o exit → o.code ≡ 21
    ends entry o exit room s =
        (walk-stands form job entry o exit j is room s (λ c. let t = (tables-iff form job entry o exit j is room s).0 c in none t.0 t.1)).code
walks-holds form job (rejected w) is e = absurd (false≢true e)

-- ---- the checker

stands-holds : (form : Form) (job : List ℕ) (es : List Entry) (v : Verdict) → read_job form job ≡ v → stands_on_b v es ≡ true → OnBoard form job (λ B. Stands B es)
stands-holds form job es (accepted j) is e = (j, is, (standsb-iff (job_board j) es).0 e)
stands-holds form job es (rejected w) is e = absurd (false≢true e)

-- ---- the widener

wide-answer : (P Q : Job) (v : AnswerVerdict) (sheet : List ℕ) → widens_with_b P Q v sheet ≡ true
    → (entry : List ℕ) → longest ≤ length entry → judged P Q v entry ≡ writing 20 sheet entry
wide-answer P Q (answered (tables xs ys)) sheet e entry room =
    let t = (and-eq-true_iff (eqb (judge_tables (job_board P) (xs ++ ys)).code 20) _).0 e in
    let u = (and-eq-true_iff (asksb P Q) (sameb (widen_sheet P Q xs ys) sheet)).0 t.1 in
    rw (t.0, u.0, le-ltb (length entry) longest room) (ap (λ (s : List ℕ). writing 20 s entry) (sameb-true (widen_sheet P Q xs ys) sheet u.1))
wide-answer P Q (answered (walk es)) sheet e entry room = absurd (false≢true e)
wide-answer P Q (unanswered w) sheet e entry room = absurd (false≢true e)

wide-to : (P : Job) (v : Verdict) (answer sheet : List ℕ) → widens_to_b P v answer sheet ≡ true
    → (entry : List ℕ) → longest ≤ length entry → with_p P v answer entry ≡ writing 20 sheet entry
wide-to P (accepted Q) answer sheet e = wide-answer P Q (read (job_board P) answer) sheet e
wide-to P (rejected w) answer sheet e = absurd (false≢true e)

wide_from : (form : Form) (v : Verdict) (q answer sheet : List ℕ) → widensb form v q answer sheet ≡ true
    → (entry : List ℕ) → longest ≤ length entry → with_none form v q answer entry ≡ writing 20 sheet entry
wide_from form (accepted P) q answer sheet e = wide-to P (read_job form q) answer sheet e
wide_from form (rejected w) q answer sheet e = absurd (false≢true e)

-- ---- the cases

pub passes-holds : (c : Case) → passes c ≡ true → Holds c
unfolding passes widened
passes-holds (solves form job sheet) e = solves-holds form job sheet (read_job form job) refl e
passes-holds (walks form job) e = walks-holds form job (read_job form job) refl e
passes-holds (stands form job es) e =
    let t = (and-eq-true_iff (stands_on_b (read_job form job) es) (judgesb form job (walk_sheet es) (success 21 0))).0 e in
    (stands-holds form job es (read_job form job) refl t.0, outcomeb-true _ _ t.1)
passes-holds (judges form job answer outcome) e = outcomeb-true _ _ e
passes-holds (widens form p q answer sheet) e = wide_from form (read_job form p) q answer sheet e
