-- How a widener call ends, each way from plain facts.
--     taken_as                              from what the reader of jobs told and stored
--     refused-first, taken-first, refused-second, taken-second      a job sheet is refused, or taken
--     ends-walk, ends-checked               the answer is a walk that stands, or is refused by the checker
--     wide-asks                             what `write_wide` asks is there
--     ends-asks, ends-room, ends-written    tables that fit: Q asks more, no room, and the widened sheet
-- Assumes nothing.
use mathlib.Core.Path.{◌≡◌, refl, sym, ap, ap₂, ◌∙◌}
use mathlib.Core.Bool.{true, false}
use mathlib.Core.List.{List, ◌++◌}
use Prim.Native.Nat.{ℕ, ◌^◌, ◌<◌, ◌≤◌}
use native.Mathlib.Omega.{arith}
use borrow.Author.Tests.{lt-ltb, le-ltb, eq-eqb, ne_eqb}
use lib.Count.{ones}
use lib.ListN.{length, take, drop}
use Rattle.wires.specs.Wires.{placed}
use Rattle.wires.proofs.Rows.{row_below}
use Rattle.steps.specs.declared.Outcome.{Outcome}
use Rattle.steps.specs.declared.Refusal.{Refusal}
use Rattle.steps.specs.Outcome.{success, refusal, refused_job, Ending, refusing, Ended}
use Rattle.steps.proofs.Codes.{answer-code-bounds}
use Rattle.sheet.specs.declared.Form.{Form}
use Rattle.sheet.specs.declared.JobHead.{JobHead}
use Rattle.sheet.specs.Job.{Job, accepted, rejected}
use Rattle.sheet.specs.JobSheet.{read_job}
use Rattle.answer.specs.Answer.{tables, walk, AnswerVerdict, answered}
use Rattle.answer.specs.Answer.{rejected as unanswered}
use Rattle.answer.specs.AnswerSheet.{read_answer, longest}
use Rattle.answer.specs.Written.{tables_sheet}
use Rattle.answer.proofs.There.{tables-there}
use Rattle.board.specs.Board.{Board}
use Rattle.board.specs.JobBoard.{board_of, job_board, head_board}
use Rattle.board.specs.Check.{judge_tables, judge_walk, judge, judge_sheet}
use Rattle.board.specs.Places.{TablesIn}
use Rattle.board.proofs.Accepting.{Taken}
use Rattle.board.proofs.Judging.{tables-in}
use Rattle.board.proofs.Codes.{tables-not, walk-not}
use Rattle.asking.specs.Asks.{asksb}
use Rattle.asking.specs.Taking.{TakenAs}
use Rattle.asking.proofs.Asking.{asks-iff}
use Rattle.widener.specs.Table.{narrow_row, widen_table, widen_sheet}
use Rattle.sheet.specs.JobFound.{job_head}
use Rattle.widener.specs.Writing.{Wide, Widely, sheet_from}
use Rattle.widener.specs.Widened.{fitting, judged, with_both, with_p, widened}
use Rattle.widener.proofs.Tabling.{tabled-same}

-- ---- jobs

pub taken_as : {f : Form} {s : List ℕ} {h : JobHead} {masks : List ℕ} (t : Taken f s h masks) → TakenAs s h masks t.job
taken_as {f} t = record { form = f; is = t.is; head = t.head; sized = t.sized; rules_are = t.rules_are; excuses_are = t.excuses_are }

-- a call that ends as it should where e is how it should
ended-as : {d e : Ending} {o : Outcome} {exit : List ℕ} → d ≡ e → o ≡ e.outcome → exit ≡ e.exit → Ended d o exit
ended-as e eo ex = record { outcome = eo ∙ ap (λ (x : Ending). x.outcome) (sym e); exit_is = ex ∙ ap (λ (x : Ending). x.exit) (sym e) }

module _ (f : Form) (p q s entry : List ℕ) where
  pub refused-first : (w : Refusal) {o : Outcome} → read_job f p ≡ rejected w → o ≡ refused_job 1 w → Ended (widened f p q s entry) o entry
  unfolding widened
  refused-first w e eo = rw e (ended-as refl eo refl)

  pub taken-first : (P : Job) {o : Outcome} {exit : List ℕ} → read_job f p ≡ accepted P → Ended (with_p P (read_job f q) s entry) o exit → Ended (widened f p q s entry) o exit
  unfolding widened
  taken-first P e x = rw e x

module _ (P : Job) (f : Form) (q s entry : List ℕ) where
  pub refused-second : (w : Refusal) {o : Outcome} → read_job f q ≡ rejected w → o ≡ refused_job 3 w → Ended (with_p P (read_job f q) s entry) o entry
  refused-second w e eo = rw e (ended-as refl eo refl)

  pub taken-second : (Q : Job) {o : Outcome} {exit : List ℕ} → read_job f q ≡ accepted Q → Ended (with_both P Q s entry) o exit → Ended (with_p P (read_job f q) s entry) o exit
  taken-second Q e x = rw e x

-- ---- the answer against P, whatever it was read as

module _ (P Q : Job) (l : List ℕ) where
  judged-walk : (v : AnswerVerdict) → (judge (job_board P) v).code ≡ 21 → judged P Q v l ≡ refusing (refusal 15 2 0) l
  judged-walk (answered (tables xs ys)) e = absurd (tables-not (job_board P) (xs ++ ys) 21 (λ z. omega arith) (λ z. omega arith) e)
  judged-walk (answered (walk es)) e = rw (eq-eqb (judge_walk (job_board P) es).code 21 e)
  judged-walk (unanswered w) e = let no : ⊥ = omega (arith, (answer-code-bounds w).0) in absurd no

  judged-refused : (v : AnswerVerdict) → ((judge (job_board P) v).code ≡ 21 → ⊥) → ((judge (job_board P) v).code ≡ 20 → ⊥)
      → judged P Q v l ≡ refusing (judge (job_board P) v) l
  judged-refused (answered (tables xs ys)) d e = rw (ne_eqb (judge_tables (job_board P) (xs ++ ys)).code 20 e)
  judged-refused (answered (walk es)) d e = rw (ne_eqb (judge_walk (job_board P) es).code 21 d)
  judged-refused (unanswered w) d e = refl

  judged-tables : (v : AnswerVerdict) → (judge (job_board P) v).code ≡ 20
      → (xs : List ℕ) × (ys : List ℕ) × (v ≡ answered (tables xs ys)) × (judged P Q v l ≡ fitting P Q xs ys l)
  judged-tables (answered (tables xs ys)) e = (xs, ys, refl, rw (eq-eqb (judge_tables (job_board P) (xs ++ ys)).code 20 e))
  judged-tables (answered (walk es)) e = absurd (walk-not (job_board P) es 20 (λ z. omega arith) (λ z. omega arith) (λ z. omega arith) e)
  judged-tables (unanswered w) e = let no : ⊥ = omega (arith, (answer-code-bounds w).0) in absurd no

-- ---- both jobs were taken

-- equal pins are equally many
asks-count : (P Q : Job) → asksb P Q ≡ true → length P.pins ≡ length Q.pins
asks-count P Q e = ap length ((asks-iff P Q).0 e).pins

-- the rows stand in the sheet that was read, so what is written from there is the widened sheet
sheet-same : (n : ℕ) (P Q : Job) (cs : ℕ) (s xs ys : List ℕ) → read_answer (2 ^ ones P.sees_a) (2 ^ ones P.sees_b) cs s ≡ answered (tables xs ys)
    → sheet_from n (job_head P) (job_head Q) s ≡ tables_sheet (widen_table n P.sees_a Q.sees_a xs) (widen_table n P.sees_b Q.sees_b ys)
sheet-same n P Q cs s xs ys e =
    let t = tables-there _ _ cs s xs ys e in
    ap₂ tables_sheet
    (tabled-same _ _ 0 (2 ^ ones Q.sees_a) (λ r l. t.at_a (narrow_row n P.sees_a Q.sees_a r) (row_below n P.sees_a (placed n Q.sees_a r))))
    (tabled-same _ _ 0 (2 ^ ones Q.sees_b) (λ r l. t.at_b (narrow_row n P.sees_b Q.sees_b r) (row_below n P.sees_b (placed n Q.sees_b r))))

module _ (p q s l : List ℕ) (hp hq : JobHead) (rp rq : List ℕ) (P Q : Job) (tp : TakenAs p hp rp P) (tq : TakenAs q hq rq Q) where
  abbrev verdict : AnswerVerdict
  verdict = read_answer (job_board P).rows_a (job_board P).rows_b (job_board P).combinations s

  board-is : head_board hp rp ≡ job_board P
  board-is =
      ap (λ (h : JobHead). board_of h.wires h.sees_a h.sees_b (take hp.rules rp) (take hp.excuses (drop hp.rules rp))) tp.head
      ∙ ap₂ (board_of (length P.pins) P.sees_a P.sees_b) tp.rules_are tp.excuses_are

  -- o is what the checker told
  module _ {o : Outcome} (told : o ≡ judge_sheet (head_board hp rp) s) where
    told_is : o ≡ judge (job_board P) verdict
    unfolding judge_sheet
    told_is = told ∙ ap (λ (B : Board). judge_sheet B s) board-is

    code_is : o.code ≡ (judge (job_board P) verdict).code
    code_is = ap (λ (x : Outcome). x.code) told_is

    pub ends-walk : {r : Outcome} → o.code ≡ 21 → r ≡ refusal 15 2 0 → Ended (with_both P Q s l) r l
    ends-walk c e = ended-as (judged-walk P Q l verdict (sym code_is ∙ c)) e refl

    pub ends-checked : (o.code ≡ 21 → ⊥) → (o.code ≡ 20 → ⊥) → Ended (with_both P Q s l) o l
    ends-checked c d = ended-as (judged-refused P Q l verdict (λ z. c (code_is ∙ z)) (λ z. d (code_is ∙ z))) told_is refl

    module _ (fits : o.code ≡ 20) where
      found : (xs : List ℕ) × (ys : List ℕ) × (verdict ≡ answered (tables xs ys)) × (judged P Q verdict l ≡ fitting P Q xs ys l)
      found = judged-tables P Q l verdict (sym code_is ∙ fits)

      tables-stand : TablesIn hp s
      tables-stand =
          tables-in hp rp s found.0 found.1
          (ap (λ (h : JobHead). read_answer (2 ^ ones h.sees_a) (2 ^ ones h.sees_b) (2 ^ h.wires) s) tp.head ∙ found.2)

      pub wide-asks : longest ≤ length l → Wide hp hq s l
      wide-asks room = record {
        sees_a = tp.sized.sees_a;
        sees_b = tp.sized.sees_b;
        wide_a = tq.sized.sees_a;
        wide_b = tq.sized.sees_b;
        tables = tables-stand;
        room = room;
      }

      pub ends-asks : {r : Outcome} → asksb P Q ≡ false → r ≡ refusal 14 3 0 → Ended (with_both P Q s l) r l
      ends-asks asks e = ended-as (found.3 ∙ rw asks) e refl

      pub ends-room : {r : Outcome} → asksb P Q ≡ true → length l < longest → r ≡ refusal 6 0 0 → Ended (with_both P Q s l) r l
      ends-room asks short e = ended-as (found.3 ∙ rw (asks, lt-ltb (length l) longest short)) e refl

      -- m bytes were written
      module _ {m : ℕ} {exit : List ℕ} (no_more : asksb P Q ≡ true) (wide : Widely hp hq s l exit m) where
        abbrev n : ℕ
        n = length Q.pins

        abbrev sheet : List ℕ
        sheet = widen_sheet P Q found.0 found.1

        sheet-is : sheet_from n hp hq s ≡ sheet
        sheet-is = ap₂ (λ (x y : JobHead). sheet_from n x y s) tp.head tq.head ∙ sheet-same n P Q (2 ^ length P.pins) s found.0 found.1 found.2

        wires-p : hp.wires ≡ n
        wires-p = ap (λ (h : JobHead). h.wires) tp.head ∙ asks-count P Q no_more

        wires-q : hq.wires ≡ n
        wires-q = ap (λ (h : JobHead). h.wires) tq.head

        length-is : m ≡ length sheet
        length-is = wide.long n ∙ ap length sheet-is

        exit_is : exit ≡ sheet ++ drop (length sheet) l
        exit_is =
            wide.wrote n
            (rw wires-p at tp.sized.mask_a)
            (rw wires-p at tp.sized.mask_b)
            (rw wires-q at tq.sized.mask_a)
            (rw wires-q at tq.sized.mask_b)
            ∙ ap₂ (λ (xs : List ℕ) (k : ℕ). xs ++ drop k l) sheet-is length-is

        pub ends-written : {r : Outcome} → longest ≤ length l → r ≡ success 20 m → Ended (with_both P Q s l) r exit
        ends-written room e =
            ended-as (found.3 ∙ rw (no_more, le-ltb (length l) longest room)) (e ∙ ap (success 20) length-is) exit_is
