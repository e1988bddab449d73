-- How a call of the bench text ends, from how the solver's call ended.
--     tables-found, walk-found                   what stands in a buffer that begins with a written sheet
--     tables_end, walk_end, refused_end          what a code tells of the job and of the answer sheet
--     tables-ask, walk-ask                       the printing functions have what they ask
--     tables-ends, walk_ends, refused-ends       what they print is what the call is to print
--     texted-fits                                what is printed fits in the buffer
--     texted-told                                what is printed is the text of the job, where there is room
-- Assumes nothing.
use mathlib.Core.Path.{◌≡◌, refl, sym, ap, subst, ◌∙◌}
use mathlib.Core.List.{List, [], ◌∷◌, ◌++◌, append_assoc}
use Prim.Native.Nat.{ℕ, zero, suc, ◌+◌, ◌*◌, ◌-◌, ◌/◌, ◌%◌, ◌<◌, ◌≤◌}
use native.Mathlib.Nat.{zero-add, add-zero, not-suc-le-zero}
use native.Mathlib.Omega.{arith}
use lib.ListN.{length, get_or, take, drop, length-append}
use lib.Pow.{pow_mono}
use lib.Seq.{take_at, drop_at, get_or_at, get_or-append-add}
use Rattle.steps.specs.declared.Outcome.{Outcome}
use Rattle.steps.specs.declared.Refusal.{Refusal}
use Rattle.steps.specs.Outcome.{success, refused_job}
use Rattle.steps.proofs.Codes.{code-bounds}
use Rattle.sheet.specs.declared.Form.{Form}
use Rattle.sheet.specs.Job.{Job, accepted, rejected}
use Rattle.sheet.specs.JobSheet.{read_job}
use Rattle.sheet.proofs.Laws.{job-bounds, seen-bounds}
use Rattle.answer.specs.Answer.{Entry}
use Rattle.answer.specs.AnswerSheet.{longest}
use Rattle.answer.specs.Written.{two, fours, tables_sheet, walk_sheet, IsPair, IsWalk, entry_at}
use Rattle.answer.proofs.Sheets.{tables-length, walk-length}
use Rattle.board.specs.Board.{Board, rows}
use Rattle.board.specs.Tables.{First}
use Rattle.board.specs.Walk.{Stands}
use Rattle.board.specs.JobBoard.{job_board}
use Rattle.board.specs.Places.{word_at, claim_in, combination_in}
use Rattle.solver.specs.Solved.{SolvedOn, Solved, refused, no_room, solved}
use Rattle.solver.specs.Solved.{tables as tabled, walk as walked}
use Rattle.text.specs.Text.{longest_text, tables_text, walk_text, refused_text, Printed, Texted}
use Rattle.text.specs.Text.{refused as told, tables as tabling, walk as walking, no_room as tight}
use Rattle.text.specs.Told.{Told}
use Rattle.text.specs.Told.{refused as told_refused, tables as told_tables, walk as told_walk}
use Rattle.text.specs.Printing.{entries_from, Prints, Small, TablesAsk, tables_of, WalkAsk, walk_of}

-- ---- numbers of two bytes

word-at-seam : (p q : List ℕ) (v at : ℕ) → length p ≡ at → word_at (p ++ (two v ++ q)) at ≡ v
word-at-seam p q v at l =
    let low : get_or (p ++ (two v ++ q)) at 0 ≡ v % 256 = get_or_at p (v % 256) (v / 256 ∷ q) 0 at l in
    let high : get_or (p ++ (two v ++ q)) (at + 1) 0 ≡ v / 256 = rw (← l) (get_or-append-add p (two v ++ q) 1 0) in
    omega arith

-- ---- tables in a sheet

pub record TablesFound (s xs ys : List ℕ) : Type 0 where
  pub count_a : word_at s 0 ≡ length xs
  pub count_b : word_at s (2 + word_at s 0) ≡ length ys
  pub rows_a : take (word_at s 0) (drop 2 s) ≡ xs
  pub rows_b : take (word_at s (2 + word_at s 0)) (drop (4 + word_at s 0) s) ≡ ys

module _ (xs ys q : List ℕ) where
  abbrev spine : List ℕ
  spine = two (length xs) ++ (xs ++ (two (length ys) ++ (ys ++ q)))

  first_count : word_at spine 0 ≡ length xs
  first_count = word-at-seam [] (xs ++ (two (length ys) ++ (ys ++ q))) (length xs) 0 refl

  second-count : word_at spine (2 + length xs) ≡ length ys
  second-count = word-at-seam (two (length xs) ++ xs) (ys ++ q) (length ys) (2 + length xs) (length-append (two (length xs)) xs)

  rest-is : drop (4 + length xs) spine ≡ ys ++ q
  rest-is =
      let e : spine ≡ (two (length xs) ++ xs ++ two (length ys)) ++ (ys ++ q) = simp append_assoc in
      let l : length (two (length xs) ++ xs ++ two (length ys)) ≡ 4 + length xs = simp length-append (omega arith) in
      rw e (drop_at (two (length xs) ++ xs ++ two (length ys)) (ys ++ q) (4 + length xs) l)

  spine-found : TablesFound spine xs ys
  spine-found = record {
    count_a = first_count;
    count_b = ap (λ (k : ℕ). word_at spine (2 + k)) first_count ∙ second-count;
    rows_a = ap (λ (k : ℕ). take k (drop 2 spine)) first_count ∙ take_at xs (two (length ys) ++ (ys ++ q)) (length xs) refl;
    rows_b =
        ap (λ (k : ℕ). take (word_at spine (2 + k)) (drop (4 + k) spine)) first_count
        ∙ ap (λ (k : ℕ). take k (drop (4 + length xs) spine)) second-count
        ∙ ap (λ (l : List ℕ). take (length ys) l) rest-is
        ∙ take_at ys q (length ys) refl;
  }

pub tables-found : (s xs ys q : List ℕ) → s ≡ tables_sheet xs ys ++ q → TablesFound s xs ys
tables-found s xs ys q e =
    let f : tables_sheet xs ys ++ q ≡ spine xs ys (two 0 ++ q) = simp append_assoc in
    subst (λ (l : List ℕ). TablesFound l xs ys) (sym (e ∙ f)) (spine-found xs ys (two 0 ++ q))

-- ---- a walk in a sheet

entries-in : (p q : List ℕ) (es : List Entry) (i : ℕ) → length p ≡ 6 + 4 * i → entries_from (p ++ (fours es ++ q)) i (length es) ≡ es
unfolding entries_from fours
entries-in p q [] i l = refl
entries-in p q (e ∷ es) i l =
    let s = p ++ (two e.says ++ (two e.by ++ (fours es ++ q))) in
    let first : claim_in s i ≡ e.says = word-at-seam p (two e.by ++ (fours es ++ q)) e.says (6 + 4 * i) l in
    let middle : s ≡ (p ++ two e.says) ++ (two e.by ++ (fours es ++ q)) = simp append_assoc in
    let long₂ : length (p ++ two e.says) ≡ 8 + 4 * i = length-append p (two e.says) ∙ omega arith in
    let second : combination_in s i ≡ e.by =
    ap (λ (l : List ℕ). combination_in l i) middle ∙ word-at-seam (p ++ two e.says) (fours es ++ q) e.by (8 + 4 * i) long₂ in
    let all : s ≡ (p ++ two e.says ++ two e.by) ++ (fours es ++ q) = simp append_assoc in
    let long₄ : length (p ++ two e.says ++ two e.by) ≡ 6 + 4 * (i + 1) = simp length-append (omega arith) in
    let rest : entries_from s (i + 1) (length es) ≡ es =
    ap (λ (l : List ℕ). entries_from l (i + 1) (length es)) all ∙ entries-in (p ++ two e.says ++ two e.by) q es (i + 1) long₄ in
    λ k. record { says = first k; by = second k } ∷ rest k

entry-from : (s : List ℕ) (j k i : ℕ) → i < k → entry_at (entries_from s j k) i ≡ record { says = claim_in s (j + i); by = combination_in s (j + i) }
unfolding entries_from
entry-from s j zero i h = absurd (not-suc-le-zero h)
entry-from s j (suc k) zero h = ap (λ (n : ℕ). record { says = claim_in s n; by = combination_in s n }) (sym (add-zero j))
entry-from s j (suc k) (suc i) h =
    let e : j + 1 + i ≡ j + suc i = omega arith in
    entry-from s (j + 1) k i (omega arith) ∙ ap (λ (n : ℕ). record { says = claim_in s n; by = combination_in s n }) e

pub record WalkFound (s : List ℕ) (es : List Entry) : Type 0 where
  pub count : word_at s 4 ≡ length es
  pub entries : entries_from s 0 (word_at s 4) ≡ es
  pub says : (i : ℕ) → i < length es → claim_in s i ≡ (entry_at es i).says
  pub by : (i : ℕ) → i < length es → combination_in s i ≡ (entry_at es i).by

pub walk-found : (s : List ℕ) (es : List Entry) (q : List ℕ) → s ≡ walk_sheet es ++ q → WalkFound s es
walk-found s es q e =
    let n : word_at s 4 ≡ length es = rw e (word-at-seam (two 0 ++ two 0) (fours es ++ q) (length es) 4 refl) in
    let all : entries_from s 0 (length es) ≡ es = rw e (entries-in (two 0 ++ two 0 ++ two (length es)) q es 0 refl) in
    let at : (i : ℕ) → i < length es → entry_at es i ≡ record { says = claim_in s i; by = combination_in s i } =
    λ i h. ap (λ (l : List Entry). entry_at l i) (sym all) ∙ entry-from s 0 (length es) i h ∙ ap (λ (k : ℕ). record { says = claim_in s k; by = combination_in s k }) (zero-add i) in
    record {
      count = n;
      entries = ap (entries_from s 0) n ∙ all;
      says = λ i h. sym (ap (λ (x : Entry). x.says) (at i h));
      by = λ i h. sym (ap (λ (x : Entry). x.by) (at i h));
    }

-- ---- what a code tells

code_of : {o p : Outcome} → o ≡ p → o.code ≡ p.code
code_of e = ap (λ (x : Outcome). x.code) e

record TablesEnd (form : Form) (job s : List ℕ) : Type 0 where
  pub j : Job
  pub xs : List ℕ
  pub ys : List ℕ
  pub is : read_job form job ≡ accepted j
  pub pair : IsPair (job_board j).rows_a (job_board j).rows_b xs ys
  pub first : First (job_board j) (xs ++ ys)
  pub long : 6 + length xs + length ys ≤ length s
  pub found : TablesFound s xs ys

record WalkEnd (form : Form) (job s : List ℕ) : Type 0 where
  pub j : Job
  pub es : List Entry
  pub is : read_job form job ≡ accepted j
  pub walks : IsWalk (2 * rows (job_board j)) (job_board j).combinations es
  pub stands : Stands (job_board j) es
  pub few : length es ≤ 4 * rows (job_board j) - 2
  pub long : 6 + 4 * length es ≤ length s
  pub found : WalkFound s es

record RefusedEnd (form : Form) (job : List ℕ) (o : Outcome) : Type 0 where
  pub why : Refusal
  pub is : read_job form job ≡ rejected why
  pub outcome : o ≡ refused_job 1 why

module _ (form : Form) (job entry s : List ℕ) (o : Outcome) (room : longest ≤ length entry) where
  tables-on : (j : Job) → read_job form job ≡ accepted j → SolvedOn (job_board j) entry o s → o.code ≡ 20 → TablesEnd form job s
  tables-on j is (tabled xs ys p f e w) c =
      let l = ap length w ∙ length-append (tables_sheet xs ys) (drop (length (tables_sheet xs ys)) entry) in
      record {
        j = j;
        xs = xs;
        ys = ys;
        is = is;
        pair = p;
        first = f;
        long = omega (arith, tables-length xs ys);
        found = tables-found s xs ys (drop (length (tables_sheet xs ys)) entry) w;
      }
  tables-on j is (walked es p st l e w) c = let no : ⊥ = omega (arith, code_of e) in absurd no

  walk-on : (j : Job) → read_job form job ≡ accepted j → SolvedOn (job_board j) entry o s → o.code ≡ 21 → WalkEnd form job s
  walk-on j is (tabled xs ys p f e w) c = let no : ⊥ = omega (arith, code_of e) in absurd no
  walk-on j is (walked es p st few e w) c =
      let l = ap length w ∙ length-append (walk_sheet es) (drop (length (walk_sheet es)) entry) in
      record {
        j = j;
        es = es;
        is = is;
        walks = p;
        stands = st;
        few = few;
        long = omega (arith, walk-length es);
        found = walk-found s es (drop (length (walk_sheet es)) entry) w;
      }

  tables_end : Solved form job entry o s → o.code ≡ 20 → TablesEnd form job s
  tables_end (refused w e p q) c = let no : ⊥ = omega (arith, code_of p, code-bounds w) in absurd no
  tables_end (no_room j e l p q) c = let no : ⊥ = omega arith in absurd no
  tables_end (solved j e l on) c = tables-on j e on c

  walk_end : Solved form job entry o s → o.code ≡ 21 → WalkEnd form job s
  walk_end (refused w e p q) c = let no : ⊥ = omega (arith, code_of p, code-bounds w) in absurd no
  walk_end (no_room j e l p q) c = let no : ⊥ = omega arith in absurd no
  walk_end (solved j e l on) c = walk-on j e on c

  neither : (B : Board) → SolvedOn B entry o s → (o.code ≡ 20 → ⊥) → (o.code ≡ 21 → ⊥) → ⊥
  neither B (tabled xs ys p f e w) m n = m (code_of e)
  neither B (walked es p st few e w) m n = n (code_of e)

  refused_end : Solved form job entry o s → (o.code ≡ 20 → ⊥) → (o.code ≡ 21 → ⊥) → RefusedEnd form job o
  refused_end (refused w e p q) m n = record { why = w; is = e; outcome = p }
  refused_end (no_room j e l p q) m n = let no : ⊥ = omega arith in absurd no
  refused_end (solved j e l on) m n = absurd (neither (job_board j) on m n)

  -- ---- what the printing functions ask

  module _ (sol : Solved form job entry o s) (out : List ℕ) (large : longest_text ≤ length out) where
    pub tables-ask : o.code ≡ 20 → TablesAsk s out
    tables-ask c =
        let t = tables_end sol c in
        let f = t.found in
        let m = seen-bounds form job t.j t.is in
        let la : (job_board t.j).rows_a ≤ 256 = pow_mono m.0 in
        let lb : (job_board t.j).rows_b ≤ 256 = pow_mono m.1 in
        let pa = t.pair.long_a in
        let pb = t.pair.long_b in
        let small_a : Small t.xs = λ i h. omega (arith, t.pair.bits_a i (omega arith)) in
        let small_b : Small t.ys = λ i h. omega (arith, t.pair.bits_b i (omega arith)) in
        record {
          few_a = omega (arith, f.count_a);
          few_b = omega (arith, f.count_b);
          there = omega (arith, f.count_a, f.count_b, t.long);
          small_a = subst Small (sym f.rows_a) small_a;
          small_b = subst Small (sym f.rows_b) small_b;
          room = large;
        }

    pub walk-ask : o.code ≡ 21 → WalkAsk s out
    walk-ask c =
        let t = walk_end sol c in
        let f = t.found in
        let m = seen-bounds form job t.j t.is in
        let b = job-bounds form job t.j t.is in
        let la : (job_board t.j).rows_a ≤ 256 = pow_mono m.0 in
        let lb : (job_board t.j).rows_b ≤ 256 = pow_mono m.1 in
        let lc : (job_board t.j).combinations ≤ 4096 = pow_mono b.0 in
        let n = f.count in
        record {
          most = omega (arith, t.walks.most);
          there = omega (arith, t.long);
          claims = λ i h. let l : i < length t.es = omega arith in omega (arith, f.says i l, t.walks.claim i l);
          combinations = λ i h. let l : i < length t.es = omega arith in omega (arith, f.by i l, t.walks.combination i l);
          room = large;
        }

    -- ---- what they print

    module _ (exit : List ℕ) (r : ℕ) (o₂ : Outcome) (end : o₂ ≡ success 0 r) where
      printed : (t u : List ℕ) → u ≡ t → Prints u out exit r → Printed t out o₂ exit
      printed t u e p = record { outcome = end ∙ ap (success 0) (p.long ∙ ap length e); bytes = p.bytes ∙ ap (λ (l : List ℕ). l ++ drop (length l) out) e }

      pub tables-ends : o.code ≡ 20 → Prints (tables_of s) out exit r → Texted form job out o₂ exit
      tables-ends c p =
          let t = tables_end sol c in
          let f = t.found in
          let e : tables_of s ≡ tables_text t.xs t.ys = λ i. tables_text (f.rows_a i) (f.rows_b i) in
          tabling t.j t.xs t.ys large t.is t.pair t.first (printed _ _ e p)

      pub walk_ends : o.code ≡ 21 → Prints (walk_of s) out exit r → Texted form job out o₂ exit
      walk_ends c p =
          let t = walk_end sol c in
          walking t.j t.es large t.is t.walks t.stands t.few (printed _ _ (ap walk_text t.found.entries) p)

      pub refused-ends : (o.code ≡ 20 → ⊥) → (o.code ≡ 21 → ⊥) → Prints (refused_text o) out exit r → Texted form job out o₂ exit
      refused-ends m n p =
          let t = refused_end sol m n in
          told t.why large t.is (printed _ _ (ap refused_text t.outcome) p)

-- ---- what is printed fits

printed-fits : {t entry : List ℕ} {o : Outcome} {exit : List ℕ} → Printed t entry o exit → o.written ≤ length exit
printed-fits {t} {entry} p = omega (arith, ap (λ (x : Outcome). x.written) p.outcome, ap length p.bytes, length-append t (drop (length t) entry))

pub texted-fits : {form : Form} {job entry : List ℕ} {o : Outcome} {exit : List ℕ} → Texted form job entry o exit → o.written ≤ length exit
texted-fits (tight _ e _) = omega (arith, ap (λ (x : Outcome). x.written) e)
texted-fits (told _ _ _ p) = printed-fits p
texted-fits (tabling _ _ _ _ _ _ _ p) = printed-fits p
texted-fits (walking _ _ _ _ _ _ _ p) = printed-fits p

-- ---- where there is room, the bytes that are printed are the text of the job

printed-front : {t entry : List ℕ} {o : Outcome} {exit : List ℕ} → Printed t entry o exit → take o.written exit ≡ t
printed-front {t} {entry} p = rw (p.outcome, p.bytes) (take_at t (drop (length t) entry) (length t) refl)

pub texted-told : {form : Form} {job entry : List ℕ} {o : Outcome} {exit : List ℕ} → longest_text ≤ length entry → Texted form job entry o exit
    → Told form job (take o.written exit)
texted-told large (tight few _ _) = absurd (omega arith)
texted-told large (told w _ is p) = told_refused w is (printed-front p)
texted-told large (tabling j xs ys _ is pair first p) = told_tables j xs ys is pair first (printed-front p)
texted-told large (walking j es _ is walks stands few p) = told_walk j es is walks stands few (printed-front p)
