-- An answer sheet for the board of a job in numbers: what the reader of answers told, and the judgement of its bytes.
--     tables-are, walk_is, refused-is          what the verdict on the sheet is, from the reader's answer
--     tables-told, walk-told, refused-told     what the sheet comes to, from the reader's answer
--     tables-in, walk-holds                    what is known of the bytes of tables, and of a walk
--     tables-judged, walk-judged, refused-judged     the judgement of the bytes is that of the sheet
-- Assumes nothing.
use mathlib.Core.Path.{◌≡◌, refl, sym, ap, ap₂, ◌∙◌}
use mathlib.Core.List.{List, ◌++◌}
use Prim.Native.Nat.{ℕ, ◌+◌, ◌*◌, ◌%◌, ◌^◌, ◌<◌, ◌≤◌}
use native.Mathlib.Nat.{one-mul}
use native.Mathlib.Omega.{arith}
use lib.Dec.{lit<}
use lib.Pow.{shl_exact}
use lib.Count.{ones}
use lib.ListN.{length, get_or, get_or-append}
use lib.Seq.{get_or-append-add}
use Rattle.wires.specs.Wires.{shown}
use Rattle.wires.proofs.Rows.{row_below}
use Rattle.steps.specs.declared.Refusal.{Refusal}
use Rattle.steps.specs.Outcome.{refused_answer}
use Rattle.sheet.specs.declared.JobHead.{JobHead}
use Rattle.sheet.specs.JobSheet.{wire_limit}
use Rattle.std.specs.Prelude.{Result, Ok, Err}
use Rattle.answer.specs.declared.AnswerKind.{AnswerKind}
use Rattle.answer.specs.declared.AnswerKind.TheVariants.{Tables, Walk}
use Rattle.answer.specs.Answer.{Entry, tables, walk, AnswerVerdict, answered, rejected}
use Rattle.answer.specs.AnswerSheet.{read_answer}
use Rattle.answer.specs.AnswerFound.{as_answer}
use Rattle.answer.proofs.There.{tables-there, walk-there}
use Rattle.board.specs.Board.{at_b}
use Rattle.board.specs.Tables.{held}
use Rattle.board.specs.JobBoard.{head_board, Sized}
use Rattle.board.specs.Tested.{tested, rule_of}
use Rattle.board.specs.Tests.{lowest}
use Rattle.board.specs.Check.{fault_at, rule_at, tables_at, judge_tables, judge_sheet}
use Rattle.board.specs.Places.{row_a, row_b, fault_in, rule_in, walk_in, TablesIn, WalkIn}
use Rattle.board.proofs.Lowest.{lowest-same}
use Rattle.board.proofs.Walking.{Placed, walk-in}

-- ---- what was told

pub tables-are : (v : AnswerVerdict) → Ok Tables ≡ as_answer v → (xs : List ℕ) × (ys : List ℕ) × (v ≡ answered (tables xs ys))
tables-are (answered (tables xs ys)) e = (xs, ys, refl)
tables-are (answered (walk es)) e = cc
tables-are (rejected w) e = cc

pub walk_is : (v : AnswerVerdict) (k : ℕ) → Ok (Walk k) ≡ as_answer v → (es : List Entry) × (v ≡ answered (walk es)) × (k ≡ length es)
walk_is (answered (tables xs ys)) k e = cc
walk_is (answered (walk es)) k e = (es, refl, cc)
walk_is (rejected w) k e = cc

pub refused-is : (v : AnswerVerdict) (w : Refusal) → Err w ≡ as_answer v → v ≡ rejected w
refused-is (answered (tables xs ys)) w e = cc
refused-is (answered (walk es)) w e = cc
refused-is (rejected w') w e = cc

-- the board that the sheet is read for has the sizes of the job's
module _ (h : JobHead) (masks s : List ℕ) where
  abbrev pub verdict : AnswerVerdict
  verdict = read_answer (2 ^ ones h.sees_a) (2 ^ ones h.sees_b) (2 ^ h.wires) s

  module _ (xs ys : List ℕ) (is : verdict ≡ answered (tables xs ys)) where
    pub tables-in : TablesIn h s
    tables-in =
        let t = tables-there _ _ _ s xs ys is in record {
          long = omega (arith, t.long);
          bits_a = λ r l. rw (t.at_a r l) (t.pair.bits_a r l);
          bits_b = λ r l. rw (t.at_b r l) (t.pair.bits_b r l);
        }

    same-a : (a : ℕ) → row_a h s a ≡ held (xs ++ ys) ((head_board h masks).show_a a)
    same-a a =
        let t = tables-there _ _ _ s xs ys is in
        let row_a = row_below h.wires h.sees_a a in
        let in-a : shown h.wires h.sees_a a < length xs = omega (arith, t.pair.long_a) in
        t.at_a (shown h.wires h.sees_a a) row_a ∙ sym (get_or-append xs ys 0 (shown h.wires h.sees_a a) in-a)

    same-b : (a : ℕ) → row_b h s a ≡ held (xs ++ ys) (at_b (head_board h masks) a)
    same-b a =
        let t = tables-there _ _ _ s xs ys is in
        t.at_b (shown h.wires h.sees_b a) (row_below h.wires h.sees_b a)
        ∙ sym (get_or-append-add xs ys (shown h.wires h.sees_b a) 0)
        ∙ ap (λ (n : ℕ). get_or (xs ++ ys) (n + shown h.wires h.sees_b a) 0) t.pair.long_a

    same-fault : (a : ℕ) → fault_in h masks s a ≡ fault_at (head_board h masks) (xs ++ ys) a
    same-fault a = ap₂ ((head_board h masks).breaks a) (same-a a) (same-b a)

    same-rule : (a : ℕ) → rule_in h masks s a ≡ rule_at (head_board h masks) (xs ++ ys) a
    same-rule a = ap₂ (λ (x y : ℕ). rule_of (tested (head_board h masks) a x y)) (same-a a) (same-b a)

    pub tables-judged : tables_at (head_board h masks) (rule_in h masks s) (lowest (fault_in h masks s) (2 ^ h.wires)) ≡ judge_sheet (head_board h masks) s
    unfolding judge_sheet judge_tables
    tables-judged =
        rw is
        (ap (tables_at (head_board h masks) (rule_in h masks s)) (lowest-same (fault_in h masks s) (fault_at (head_board h masks) (xs ++ ys)) (2 ^ h.wires) (λ a l. same-fault a))
        ∙ ap (λ (rule : ℕ → ℕ). tables_at (head_board h masks) rule (lowest (fault_at (head_board h masks) (xs ++ ys)) (2 ^ h.wires))) (λ i a. same-rule a i))

  module _ (es : List Entry) (is : verdict ≡ answered (walk es)) where
    placed : Placed s es
    placed i l =
        let t = walk-there _ _ _ s es is in
        let seven : 6 + 4 * i + 1 ≡ 7 + 4 * i = omega arith in
        let nine : 8 + 4 * i + 1 ≡ 9 + 4 * i = omega arith in
        (rw seven (t.at_claim i l), rw nine (t.at_combination i l))

    pub walk-holds : WalkIn h s (length es)
    walk-holds =
        let t = walk-there _ _ _ s es is in record {
          some = t.walks.some;
          most = t.walks.most;
          long = omega (arith, t.long);
          combinations = λ i l. rw (placed i l).1 (t.walks.combination i l);
        }

    pub walk-judged : walk_in h masks s (length es) ≡ judge_sheet (head_board h masks) s
    unfolding judge_sheet
    walk-judged = rw is (walk-in h masks s es placed (walk-there _ _ _ s es is).walks.some)

  pub refused-judged : (w : Refusal) → verdict ≡ rejected w → refused_answer w ≡ judge_sheet (head_board h masks) s
  unfolding judge_sheet
  refused-judged w is = rw is

-- `1 << wires` at 32 bits
pub combinations-are : (wires : ℕ) → wires ≤ wire_limit → 1 * 2 ^ wires % 2 ^ 32 ≡ 2 ^ wires
combinations-are wires l = shl_exact {a = 1} 1 wires 32 (lit< tt) (omega arith) ∙ one-mul (2 ^ wires)

-- the reader was asked with numbers equal to the sizes
module _ (h : JobHead) (masks s : List ℕ) (z : Sized h masks) (rows_a rows_b : ℕ) (in_a : rows_a ≡ 2 ^ ones h.sees_a) (in_b : rows_b ≡ 2 ^ ones h.sees_b) (x : Result AnswerKind Refusal)
    (told : x ≡ as_answer (read_answer rows_a rows_b (1 * 2 ^ h.wires % 2 ^ 32) s)) where
  asked : x ≡ as_answer (verdict h masks s)
  asked = rw (← in_a, ← in_b, ← combinations-are h.wires z.wires) told

  pub tables-told : x ≡ Ok Tables → TablesIn h s × (tables_at (head_board h masks) (rule_in h masks s) (lowest (fault_in h masks s) (2 ^ h.wires)) ≡ judge_sheet (head_board h masks) s)
  tables-told p =
      let t = tables-are (verdict h masks s) (sym p ∙ asked) in
      (tables-in h masks s t.0 t.1 t.2, tables-judged h masks s t.0 t.1 t.2)

  pub walk-told : (k : ℕ) → x ≡ Ok (Walk k) → WalkIn h s k × (walk_in h masks s k ≡ judge_sheet (head_board h masks) s)
  walk-told k p =
      let t = walk_is (verdict h masks s) k (sym p ∙ asked) in
      rw t.2 (walk-holds h masks s t.0 t.1, walk-judged h masks s t.0 t.1)

  pub refused-told : (w : Refusal) → x ≡ Err w → refused_answer w ≡ judge_sheet (head_board h masks) s
  refused-told w p = refused-judged h masks s w (refused-is (verdict h masks s) w (sym p ∙ asked))
