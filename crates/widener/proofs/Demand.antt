-- Demand 3: what widening does to boards, tables and walks.
--     asks-board       a job that asks no more has a board that asks no more
--     row-by-row       the widened tables hold at each combination what P's tables hold there
--     wide-pair        tables that fit P, widened, are tables that fit Q
--     wide-checked     what the widener writes is accepted by the checker for Q, with 20 and the reported length
--     pair-carries     if some pair fits P, some pair fits Q
--     walk-carries     if the solver's outcome for Q is a walk, its outcome for P is a walk
--     tables-carry     if its outcome for P is tables, its outcome for Q is tables
-- Assumes nothing.
use mathlib.Core.Path.{◌≡◌, sym, ap, subst, ◌∙◌}
use mathlib.Core.Bool.{true}
use mathlib.Core.List.{List, ◌++◌}
use Prim.Native.Nat.{ℕ, ◌+◌, ◌^◌, ◌<◌, ◌≤◌}
use native.Mathlib.Nat.{zero-add}
use native.Mathlib.Omega.{arith}
use lib.Bits.{bit_and}
use borrow.Author.Tests.{eqb-true}
use lib.ListN.{length, get_or, take, drop, length-append, length-drop, take-append-drop, get_or-append}
use lib.Seq.{get_or-append-add, get_or-take, get_or-drop, length-take-le}
use Rattle.wires.specs.Wires.{shown, placed}
use Rattle.wires.specs.Terms.{Holds, Fault, Excused, Contains}
use Rattle.wires.proofs.Rows.{row_below, shown-placed, wider}
use Rattle.wires.proofs.Sets.{contains-iff}
use Rattle.steps.specs.declared.Outcome.{Outcome}
use Rattle.steps.specs.Outcome.{success}
use Rattle.sheet.specs.declared.Form.{Form}
use Rattle.sheet.specs.Job.{Job, accepted}
use Rattle.sheet.specs.JobSheet.{read_job}
use Rattle.sheet.proofs.Laws.{job-bounds}
use Rattle.answer.specs.AnswerSheet.{longest}
use Rattle.answer.specs.Written.{IsPair}
use Rattle.board.specs.Board.{Shows, at_b}
use Rattle.board.specs.Tables.{held, Pair, Tables, Fits}
use Rattle.board.specs.JobBoard.{faultb, job_board}
use Rattle.board.specs.Check.{check_outcome}
use Rattle.board.proofs.Rules.{faultb-iff, excusedb-iff, excused-more}
use Rattle.board.proofs.Checked.{shows, joined-tables, accepts-tables}
use Rattle.theory.specs.Widen.{Widened}
use Rattle.theory.specs.Widen as theory
use Rattle.theory.proofs.Widen.{widened-pair}
use Rattle.solver.specs.Solved.{Solved}
use Rattle.solver.proofs.Demand.{tables-iff, walk-stands}
use Rattle.asking.specs.Asks.{AsksNoMore}
use Rattle.widener.specs.Table.{narrow_row, widen_table, widen_sheet}
use Rattle.widener.proofs.Tabling.{tabled-length, tabled-at}

-- ---- boards

module _ (form : Form) (p q : List ℕ) (P Q : Job) (is_p : read_job form p ≡ accepted P) (is_q : read_job form q ≡ accepted Q) (less : AsksNoMore P Q) where
  abbrev n : ℕ
  n = length Q.pins

  same-wires : length P.pins ≡ n
  same-wires = ap length less.pins

  abbrev narrow_a : ℕ → ℕ
  narrow_a = narrow_row n P.sees_a Q.sees_a

  abbrev narrow_b : ℕ → ℕ
  narrow_b = narrow_row n P.sees_b Q.sees_b

  shows-q : Shows (job_board Q)
  shows-q = shows n Q.sees_a Q.sees_b Q.rules Q.excuses

  -- a combination shows P's cell the row that belongs to the row it shows Q's
  shows-narrow : (few more : ℕ) → more < 2 ^ n → Contains more few → (a : ℕ) → shown (length P.pins) few a ≡ narrow_row n few more (shown n more a)
  shows-narrow few more hm c a =
      let part : bit_and few more ≡ few = eqb-true (bit_and few more) few ((contains-iff more few).1 c) in
      ap (λ (k : ℕ). shown k few a) same-wires
      ∙ wider n few more a (placed n more (shown n more a)) part (sym (shown-placed n more (shown n more a) hm (row_below n more a)))

  -- a rule that contains all terms of another holds where that one does
  holds_more : (m a x y r s : ℕ) → Contains r s → Holds m a x y s → Holds m a x y r
  holds_more m a x y r s c h = (h.0, h.1, c h.0 h.2, h.3)

  breaks-more : (a x y : ℕ) → (job_board Q).breaks a x y ≡ true → (job_board P).breaks a x y ≡ true
  breaks-more a x y e =
      let t = (faultb-iff n Q.rules Q.excuses a x y).0 e in
      let k = less.rules t.0.0 t.0.1 in
      let broken : Fault n P.rules (length P.rules) a x y = (k.0, k.1, λ h. t.0.2 (holds_more n a x y (get_or Q.rules t.0.0 0) (get_or P.rules k.0 0) k.2 h)) in
      let unexcused : Excused n P.excuses (length P.excuses) a → ⊥ = λ x. t.1 ((excusedb-iff n Q.excuses a).0 (excused-more n P.excuses Q.excuses a less.excuses ((excusedb-iff n P.excuses a).1 x))) in
      subst (λ (m : ℕ). faultb m P.rules P.excuses a x y ≡ true) (sym same-wires) ((faultb-iff n P.rules P.excuses a x y).1 (broken, unexcused))

  pub asks-board : theory.AsksNoMore (job_board P) (job_board Q) narrow_a narrow_b
  asks-board =
      let b = job-bounds form q Q is_q in record {
        combinations = ap (λ (k : ℕ). 2 ^ k) same-wires;
        in_a = λ r h. row_below n P.sees_a (placed n Q.sees_a r);
        in_b = λ r h. row_below n P.sees_b (placed n Q.sees_b r);
        shows_a = λ a h. shows-narrow P.sees_a Q.sees_a b.2 less.sees_a a;
        shows_b = λ a h. shows-narrow P.sees_b Q.sees_b b.3 less.sees_b a;
        breaks = λ a x y h e. breaks-more a x y e;
      }

  -- ---- tables

  module _ (xs ys : List ℕ) (pair : IsPair (job_board P).rows_a (job_board P).rows_b xs ys) where
    abbrev wide_a : List ℕ
    wide_a = widen_table n P.sees_a Q.sees_a xs

    abbrev wide_b : List ℕ
    wide_b = widen_table n P.sees_b Q.sees_b ys

    long_a : length wide_a ≡ (job_board Q).rows_a
    long_a = tabled-length (λ r. get_or xs (narrow_a r) 0) 0 (job_board Q).rows_a

    long_b : length wide_b ≡ (job_board Q).rows_b
    long_b = tabled-length (λ r. get_or ys (narrow_b r) 0) 0 (job_board Q).rows_b

    at_a : (r : ℕ) → r < (job_board Q).rows_a → get_or wide_a r 0 ≡ get_or xs (narrow_a r) 0
    at_a r h = tabled-at (λ i. get_or xs (narrow_a i) 0) 0 (job_board Q).rows_a r h ∙ ap (λ (k : ℕ). get_or xs (narrow_a k) 0) (zero-add r)

    at-b : (r : ℕ) → r < (job_board Q).rows_b → get_or wide_b r 0 ≡ get_or ys (narrow_b r) 0
    at-b r h = tabled-at (λ i. get_or ys (narrow_b i) 0) 0 (job_board Q).rows_b r h ∙ ap (λ (k : ℕ). get_or ys (narrow_b k) 0) (zero-add r)

    pub wide-is-pair : IsPair (job_board Q).rows_a (job_board Q).rows_b wide_a wide_b
    wide-is-pair = record {
      long_a = long_a;
      long_b = long_b;
      bits_a = λ r h. rw (at_a r h) (pair.bits_a (narrow_a r) (asks-board.in_a r h));
      bits_b = λ r h. rw (at-b r h) (pair.bits_b (narrow_b r) (asks-board.in_b r h));
    }

    wide_rows : Widened (job_board P) (job_board Q) narrow_a narrow_b (xs ++ ys) (wide_a ++ wide_b)
    wide_rows = record {
      long = length-append wide_a wide_b ∙ omega (arith, long_a, long_b);
      of_a = λ r h.
          let l : r < length wide_a = omega (arith, long_a) in
          let m : narrow_a r < length xs = omega (arith, pair.long_a, asks-board.in_a r h) in
          get_or-append wide_a wide_b 0 r l ∙ at_a r h ∙ sym (get_or-append xs ys 0 (narrow_a r) m);
      of_b = λ r h.
          ap (λ (k : ℕ). get_or (wide_a ++ wide_b) (k + r) 0) (sym long_a) ∙ get_or-append-add wide_a wide_b r 0 ∙ at-b r h
          ∙ sym (get_or-append-add xs ys (narrow_b r) 0) ∙ ap (λ (k : ℕ). get_or (xs ++ ys) (k + narrow_b r) 0) pair.long_a;
    }

    -- at each combination the widened tables hold what P's tables hold there
    pub row-by-row : (a : ℕ) → a < (job_board Q).combinations
        → (held (wide_a ++ wide_b) ((job_board Q).show_a a) ≡ held (xs ++ ys) ((job_board P).show_a a)) × (held (wide_a ++ wide_b) (at_b (job_board Q) a) ≡ held (xs ++ ys) (at_b (job_board P) a))
    row-by-row a h = (
      wide_rows.of_a ((job_board Q).show_a a) (shows-q.in_a a h) ∙ ap (held (xs ++ ys)) (sym (asks-board.shows_a a h)),
      wide_rows.of_b ((job_board Q).show_b a) (shows-q.in_b a h) ∙ ap (λ (r : ℕ). held (xs ++ ys) ((job_board P).rows_a + r)) (sym (asks-board.shows_b a h)),
    )

    pub wide-pair : Fits (job_board P) (xs ++ ys) → Pair (job_board Q) (wide_a ++ wide_b)
    wide-pair f =
        widened-pair (job_board P) (job_board Q) narrow_a narrow_b shows-q asks-board (xs ++ ys) (wide_a ++ wide_b)
        (record { tables = joined-tables (job_board P) xs ys pair; fits = f }) wide_rows

    -- the checker accepts the widened sheet for Q
    pub wide-checked : Fits (job_board P) (xs ++ ys) → check_outcome form q (widen_sheet P Q xs ys) ≡ success 20 0
    wide-checked f = accepts-tables form q Q wide_a wide_b is_q wide-is-pair (wide-pair f).fits

  -- ---- what a solver says of the two jobs

  -- a pair of the board is two tables, one after the other
  cut-pair : (T : List ℕ) → Tables (job_board P) T → IsPair (job_board P).rows_a (job_board P).rows_b (take (job_board P).rows_a T) (drop (job_board P).rows_a T)
  cut-pair T t = record {
    long_a = length-take-le (job_board P).rows_a T (omega (arith, t.long));
    long_b = length-drop (job_board P).rows_a T ∙ omega (arith, t.long);
    bits_a = λ r h. rw (get_or-take (job_board P).rows_a T r 0 h) (t.bits r (omega arith));
    bits_b = λ r h. rw (get_or-drop (job_board P).rows_a T r 0) (t.bits ((job_board P).rows_a + r) (omega arith));
  }

  pub pair-carries : (T : List ℕ) → Pair (job_board P) T → (U : List ℕ) × Pair (job_board Q) U
  pair-carries T p =
      let xs = take (job_board P).rows_a T in
      let ys = drop (job_board P).rows_a T in
      let whole : Fits (job_board P) (xs ++ ys) = subst (Fits (job_board P)) (sym (take-append-drop (job_board P).rows_a T)) p.fits in
      (_, wide-pair xs ys (cut-pair T p.tables) whole)

  module _ (entry_p entry_q : List ℕ) (o_p o_q : Outcome) (exit_p exit_q : List ℕ) (room_p : longest ≤ length entry_p) (room_q : longest ≤ length entry_q)
      (solved_p : Solved form p entry_p o_p exit_p) (solved_q : Solved form q entry_q o_q exit_q) where
    pub tables-carry : o_p.code ≡ 20 → o_q.code ≡ 20
    tables-carry e =
        let t = (tables-iff form p entry_p o_p exit_p P is_p room_p solved_p).0 e in
        (tables-iff form q entry_q o_q exit_q Q is_q room_q solved_q).1 (pair-carries t.0 t.1)

    pub walk-carries : o_q.code ≡ 21 → o_p.code ≡ 21
    walk-carries e = (walk-stands form p entry_p o_p exit_p P is_p room_p solved_p (λ c. omega (arith, tables-carry c))).code
