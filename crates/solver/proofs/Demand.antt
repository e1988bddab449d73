-- Demand 2: what follows from how a solver call ends.
--     pair-iff-no-walk     for each job a pair fits exactly if no walk stands
--     tables-iff           the outcome is tables exactly if some pair fits
--     tables-first         they are the first such pair
--     walk-stands          else it is a walk that stands, of at most 4R − 2 entries
--     checked              the checker accepts exactly the bytes reported, with the same code
--     beyond-stays         every byte beyond them is as it was; on a refusal every byte is
--     same-ending          two endings for one job and one buffer are equal, or both are walks
--     same-job             two sheets, in whichever forms, that are read as one job end alike
--     first-bytes          the first 7,458 bytes of a longer job decide, and in form two the first 9,060
-- Assumes nothing.
use mathlib.Core.Path.{◌≡◌, sym, ap, subst, ◌∙◌}
use mathlib.Core.List.{List, ◌++◌}
use mathlib.Core.Logic.{◌⊎◌, ◌↔◌, inl, inr}
use Prim.Native.Nat.{ℕ, ◌+◌, ◌*◌, ◌-◌, ◌≤◌}
use native.Mathlib.Omega.{arith}
use lib.ListN.{length, take, drop}
use lib.Seq.{take_at, drop_at}
use Rattle.steps.specs.declared.Outcome.{Outcome}
use Rattle.steps.specs.declared.Refusal.{Refusal}
use Rattle.steps.specs.Outcome.{success, refused_job}
use Rattle.sheet.specs.declared.Form.{Form}
use Rattle.sheet.specs.Job.{Job, accepted, rejected}
use Rattle.sheet.specs.JobSheet.{read_job}
use Rattle.sheet.specs.JobSheet.{longest as longest_job}
use Rattle.sheet.proofs.Length.{first-decide}
use Rattle.answer.specs.Answer.{Entry}
use Rattle.answer.specs.AnswerSheet.{longest}
use Rattle.answer.specs.Written.{tables_sheet, walk_sheet}
use Rattle.board.specs.Board.{Board, rows}
use Rattle.board.specs.Tables.{Pair, First}
use Rattle.board.specs.Walk.{Stands}
use Rattle.board.specs.JobBoard.{job_board}
use Rattle.board.specs.Check.{check_outcome}
use Rattle.board.proofs.Checked.{shows, accepts-tables, accepts-walk}
use Rattle.board.proofs.Walks.{soundness}
use Rattle.theory.proofs.First.{first-unique}
use Rattle.theory.proofs.Solver as theory
use Rattle.solver.specs.Solved.{Wrote, SolvedOn, tables, walk, Solved, refused, no_room, solved}

-- a pair exists exactly if no walk stands
pub pair-iff-no-walk : (j : Job) → ((T : List ℕ) × Pair (job_board j) T) ↔ (¬ ((w : List Entry) × Stands (job_board j) w))
pair-iff-no-walk j = theory.pair-iff-no-walk (job_board j) (shows _ _ _ _ _)

-- two verdicts on one sheet are the same
one-job : (f : Form) (s : List ℕ) (i j : Job) → read_job f s ≡ accepted i → read_job f s ≡ accepted j → i ≡ j
one-job f s i j p q = cc

never_both : (f : Form) (s : List ℕ) (j : Job) (w : Refusal) → read_job f s ≡ accepted j → read_job f s ≡ rejected w → ⊥
never_both f s j w p q = let z : ◌≡◌ {A = ℕ} 0 1 = cc in omega arith

code_is : {o p : Outcome} → o ≡ p → o.code ≡ p.code
code_is e = ap (λ (x : Outcome). x.code) e

written_is : {o p : Outcome} → o ≡ p → o.written ≡ p.written
written_is e = ap (λ (x : Outcome). x.written) e

-- the tables written are the first pair
pub record Tabled (B : Board) (entry : List ℕ) (o : Outcome) (exit : List ℕ) : Type 0 where
  pub xs : List ℕ
  pub ys : List ℕ
  pub first : First B (xs ++ ys)
  pub wrote : Wrote (tables_sheet xs ys) entry exit
  pub written : o.written ≡ length (tables_sheet xs ys)

-- the walk written stands and is not long
pub record Walked (B : Board) (entry : List ℕ) (o : Outcome) (exit : List ℕ) : Type 0 where
  pub es : List Entry
  pub stands : Stands B es
  pub short : length es ≤ 4 * rows B - 2
  pub code : o.code ≡ 21
  pub wrote : Wrote (walk_sheet es) entry exit
  pub written : o.written ≡ length (walk_sheet es)

-- what is at the front of the buffer is the sheet that was written
front : (sheet entry exit : List ℕ) (n : ℕ) → Wrote sheet entry exit → n ≡ length sheet → take n exit ≡ sheet
front sheet entry exit n w e = ap (take n) w ∙ take_at sheet (drop (length sheet) entry) n (sym e)

-- ---- an accepted job, with room

module _ (form : Form) (job entry : List ℕ) (o : Outcome) (exit : List ℕ) (j : Job) (is : read_job form job ≡ accepted j) (room : longest ≤ length entry) where
  ended : Solved form job entry o exit → SolvedOn (job_board j) entry o exit
  ended (refused w e p q) = absurd (never_both form job j w is e)
  ended (no_room i e l p q) = absurd (omega arith)
  ended (solved i e l s) = subst (λ (k : Job). SolvedOn (job_board k) entry o exit) (one-job form job i j e is) s

  pub tables-iff : Solved form job entry o exit → (o.code ≡ 20) ↔ ((T : List ℕ) × Pair (job_board j) T)
  tables-iff s = (to (ended s), from (ended s))
    where
      to : SolvedOn (job_board j) entry o exit → o.code ≡ 20 → (T : List ℕ) × Pair (job_board j) T
      to (tables xs ys p f e w) c = (xs ++ ys, f.pair)
      to (walk es p st l e w) c = absurd (omega (arith, code_is e))

      from : SolvedOn (job_board j) entry o exit → (T : List ℕ) × Pair (job_board j) T → o.code ≡ 20
      from (tables xs ys p f e w) t = code_is e
      from (walk es p st l e w) t = absurd (soundness (job_board j) (shows _ _ _ _ _) es st t.0 t.1)

  pub tables-first : Solved form job entry o exit → o.code ≡ 20 → Tabled (job_board j) entry o exit
  tables-first s c = go (ended s)
    where
      go : SolvedOn (job_board j) entry o exit → Tabled (job_board j) entry o exit
      go (tables xs ys p f e w) = record { xs = xs; ys = ys; first = f; wrote = w; written = written_is e }
      go (walk es p st l e w) = absurd (omega (arith, code_is e))

  pub walk-stands : Solved form job entry o exit → (o.code ≡ 20 → ⊥) → Walked (job_board j) entry o exit
  walk-stands s c = go (ended s)
    where
      go : SolvedOn (job_board j) entry o exit → Walked (job_board j) entry o exit
      go (tables xs ys p f e w) = absurd (c (code_is e))
      go (walk es p st l e w) = record { es = es; stands = st; short = l; code = code_is e; wrote = w; written = written_is e }

  pub checked : Solved form job entry o exit → check_outcome form job (take o.written exit) ≡ success o.code 0
  checked s = go (ended s)
    where
      go : SolvedOn (job_board j) entry o exit → check_outcome form job (take o.written exit) ≡ success o.code 0
      go (tables xs ys p f e w) =
          ap (check_outcome form job) (front (tables_sheet xs ys) entry exit o.written w (written_is e)) ∙ accepts-tables form job j xs ys is p f.pair.fits ∙ ap (λ (c : ℕ). success c 0) (sym (code_is e))
      go (walk es p st l e w) =
          ap (check_outcome form job) (front (walk_sheet es) entry exit o.written w (written_is e)) ∙ accepts-walk form job j es is p st ∙ ap (λ (c : ℕ). success c 0) (sym (code_is e))

-- ---- every call

wrote-beyond : (sheet entry exit : List ℕ) (n : ℕ) → Wrote sheet entry exit → n ≡ length sheet → drop n exit ≡ drop n entry
wrote-beyond sheet entry exit n w e =
    ap (drop n) w ∙ drop_at sheet (drop (length sheet) entry) n (sym e) ∙ ap (λ (k : ℕ). drop k entry) (sym e)

pub beyond-stays : {form : Form} {job entry : List ℕ} {o : Outcome} {exit : List ℕ} → Solved form job entry o exit → drop o.written exit ≡ drop o.written entry
beyond-stays {form} {job} {entry} {o} {exit} (refused w e p q) = ap (drop o.written) q
beyond-stays {form} {job} {entry} {o} {exit} (no_room j e l p q) = ap (drop o.written) q
beyond-stays {form} {job} {entry} {o} {exit} (solved j e l (tables xs ys p f c w)) = wrote-beyond (tables_sheet xs ys) entry exit o.written w (written_is c)
beyond-stays {form} {job} {entry} {o} {exit} (solved j e l (walk es p st m c w)) = wrote-beyond (walk_sheet es) entry exit o.written w (written_is c)

-- the rows of A are settled by the board, so a list is cut into two tables in one way
cut-once : (n : ℕ) (xs ys us vs : List ℕ) → length xs ≡ n → length us ≡ n → xs ++ ys ≡ us ++ vs → (xs ≡ us) × (ys ≡ vs)
cut-once n xs ys us vs p q e = (
  sym (take_at xs ys n p) ∙ ap (take n) e ∙ take_at us vs n q,
  sym (drop_at xs ys n p) ∙ ap (drop n) e ∙ drop_at us vs n q,
)

-- equal, or both walks
abbrev pub SameEnding : (o p : Outcome) (exit exit' : List ℕ) → Type 0
SameEnding o p exit exit' = ((o ≡ p) × (exit ≡ exit')) ⊎ ((o.code ≡ 21) × (p.code ≡ 21))

module _ {entry : List ℕ} {o p : Outcome} {exit exit' : List ℕ} where
  on_one : (B : Board) → ((w : List Entry) → Stands B w → (T : List ℕ) → Pair B T → ⊥) → SolvedOn B entry o exit → SolvedOn B entry p exit' → SameEnding o p exit exit'
  on_one B sound (tables xs ys q f e w) (tables us vs r g c v) =
      let same = first-unique B (xs ++ ys) (us ++ vs) f g in
      let cut = cut-once B.rows_a xs ys us vs q.long_a r.long_a same in
      let sheet : tables_sheet xs ys ≡ tables_sheet us vs = rw (cut.0, cut.1) in
      inl (e ∙ ap (λ (s : List ℕ). success 20 (length s)) sheet ∙ sym c, w ∙ ap (λ (s : List ℕ). s ++ drop (length s) entry) sheet ∙ sym v)
  on_one B sound (tables xs ys q f e w) (walk es r st l c v) = absurd (sound es st (xs ++ ys) f.pair)
  on_one B sound (walk es r st l c v) (tables xs ys q f e w) = absurd (sound es st (xs ++ ys) f.pair)
  on_one B sound (walk es q st l e w) (walk fs r su m c v) = inr (code_is e, code_is c)

module _ {form : Form} {job entry : List ℕ} {o p : Outcome} {exit exit' : List ℕ} where
  pub same-ending : Solved form job entry o exit → Solved form job entry p exit' → SameEnding o p exit exit'
  same-ending (refused w e c q) (refused v f d r) = let k : w ≡ v = cc in inl (c ∙ ap (refused_job 1) k ∙ sym d, q ∙ sym r)
  same-ending (refused w e c q) (no_room j f l d r) = absurd (never_both form job j w f e)
  same-ending (refused w e c q) (solved j f l s) = absurd (never_both form job j w f e)
  same-ending (no_room j e l c q) (refused w f d r) = absurd (never_both form job j w e f)
  same-ending (no_room j e l c q) (no_room i f m d r) = inl (c ∙ sym d, q ∙ sym r)
  same-ending (no_room j e l c q) (solved i f m s) = absurd (omega arith)
  same-ending (solved j e l s) (refused w f d r) = absurd (never_both form job j w e f)
  same-ending (solved j e l s) (no_room i f m d r) = absurd (omega arith)
  same-ending (solved j e l s) (solved i f m t) =
      on_one (job_board j) (soundness (job_board j) (shows _ _ _ _ _)) s (subst (λ (k : Job). SolvedOn (job_board k) entry p exit') (one-job form job i j f e) t)

-- ---- sheets that are read as one

pub same-job : {f g : Form} {job jab entry : List ℕ} {o : Outcome} {exit : List ℕ} → read_job g jab ≡ read_job f job → Solved f job entry o exit → Solved g jab entry o exit
same-job e (refused w r c q) = refused w (e ∙ r) c q
same-job e (no_room j r l c q) = no_room j (e ∙ r) l c q
same-job e (solved j r l s) = solved j (e ∙ r) l s

-- the first bytes of the job decide
pub first-bytes : (f : Form) (job entry : List ℕ) (o : Outcome) (exit : List ℕ) → Solved f job entry o exit ↔ Solved f (take (longest_job f + 1) job) entry o exit
first-bytes f job entry o exit = (same-job (first-decide f job), same-job (sym (first-decide f job)))
