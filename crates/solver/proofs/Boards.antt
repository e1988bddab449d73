-- From the board of a job to the board of the solver's arrays, and back with what the solver left.
--     taken-no-room, taken-solved      how a call ends whose job was accepted
--     same-solved                      boards that no combination tells apart are solved alike
--     unpack-room, asks-a, asks-b      the arrays have a place for each combination
--     strikes                          the excuses are there, and of wires' terms
--     sound, board-solved              filled arrays are a sound grid, and its board is solved as that of the job
-- Assumes nothing.
use mathlib.Core.Path.{◌≡◌, refl, sym, ap, subst, ◌∙◌}
use mathlib.Core.List.{List, ◌++◌}
use Prim.Native.Nat.{ℕ, ◌+◌, ◌-◌, ◌*◌, ◌%◌, ◌^◌, ◌<◌, ◌≤◌}
use native.Mathlib.Omega.{arith}
use borrow.Author.Tests.{eqb-true, eq-eqb}
use lib.Count.{ones}
use lib.Dec.{eqb}
use lib.ListN.{length, get_or, take, drop, length-append, length-drop, get_or-append}
use lib.Pow.{pow_mono}
use lib.Seq.{get_or-drop, get_or-take, length-take-le}
use Rattle.steps.specs.declared.Outcome.{Outcome}
use Rattle.steps.specs.Outcome.{refusal}
use Rattle.sheet.specs.declared.Form.{Form}
use Rattle.sheet.specs.declared.JobHead.{JobHead}
use Rattle.wires.specs.Terms.{Setting, Breaks, Excuses}
use Rattle.wires.proofs.Sets.{same_test}
use Rattle.answer.specs.AnswerSheet.{longest}
use Rattle.board.specs.Board.{Board, Shows}
use Rattle.board.specs.JobBoard.{head_board, Sized}
use Rattle.board.proofs.Accepting.{Taken}
use Rattle.board.proofs.Checked.{shows}
use Rattle.board.proofs.Rules.{front-some, front-faultb}
use Rattle.theory.specs.Same.{Same}
use Rattle.theory.proofs.Same.{same-sym, same-shows, stands_same, first-same}
use Rattle.cubes.specs.declared.table.Table.{Table}
use Rattle.faults.specs.Table.{Faults, Struck, bit as digit}
use Rattle.grid.specs.declared.Shape.{Shape}
use Rattle.grid.specs.Grid.{grid, bit, Sound, grid_board}
use Rattle.grid.specs.Filled.{Asks, Rows, Faulted}
use Rattle.solver.specs.Solved.{SolvedOn, tables, walk, Solved, no_room, solved}

-- ---- an accepted job

module _ {f : Form} {s : List ℕ} {h : JobHead} {masks : List ℕ} (t : Taken f s h masks) where
  pub taken-no-room : {entry : List ℕ} {o : Outcome} → length entry < longest → o ≡ refusal 6 0 0 → Solved f s entry o entry
  taken-no-room short e = no_room t.job t.is short e refl

  pub taken-solved : {entry exit : List ℕ} {o : Outcome} → longest ≤ length entry → SolvedOn (head_board h masks) entry o exit → Solved f s entry o exit
  taken-solved {entry} {exit} {o} room x = solved t.job t.is room (subst (λ (B : Board). SolvedOn B entry o exit) t.board x)

-- ---- boards that no combination tells apart

module _ {P Q : Board} (ok : Shows P) (s : Same P Q) where
  pub same-solved : {entry exit : List ℕ} {o : Outcome} → SolvedOn Q entry o exit → SolvedOn P entry o exit
  same-solved (tables xs ys pair first e w) =
      tables xs ys (rw (s.rows_a, s.rows_b) pair) (first-same Q P (same-shows P Q s ok) (same-sym P Q s) (xs ++ ys) first) e w
  same-solved (walk es is stands few e w) =
      walk es (rw (s.rows_a, s.rows_b, s.combinations) is) ((stands_same P Q ok s es).1 stands) (rw (s.rows_a, s.rows_b) few) e w

-- ---- the arrays of a job

module _ {h : JobHead} {masks : List ℕ} (z : Sized h masks) where
  -- the combinations as a shift computes them
  abbrev combinations : ℕ
  combinations = (1 * 2 ^ h.wires) % 18446744073709551616

  few : 2 ^ h.wires ≤ 4096
  few = pow_mono {j = 12} z.wires

  are : combinations ≡ 2 ^ h.wires
  are = omega (arith, few)

  pub unpack-room : combinations ≤ 4096
  unpack-room = omega (arith, few, are)

  pub asks-a : (s : List ℕ) → length s ≡ 4096 → Asks h.wires h.sees_a s
  asks-a s l = record { few = omega (arith, z.wires); mask = z.mask_a; few_seen = z.sees_a; room = omega (arith, few) }

  pub asks-b : (s : List ℕ) → length s ≡ 4096 → Asks h.wires h.sees_b s
  asks-b s l = record { few = omega (arith, z.wires); mask = z.mask_b; few_seen = z.sees_b; room = omega (arith, few) }

  abbrev shape : (ra rb : ℕ) → Shape
  shape ra rb = record { wires = h.wires; sees_a = h.sees_a; sees_b = h.sees_b; rows_a = ra; rows_b = rb; combinations = combinations }

  -- the slice of the masks where the excuses stand
  abbrev excuses : List ℕ
  excuses = take (h.rules + h.excuses - h.rules) (drop h.rules masks)

  excuses-are : excuses ≡ take h.excuses (drop h.rules masks)
  excuses-are = ap (λ (k : ℕ). take k (drop h.rules masks)) (omega arith)

  pub strikes : (n : ℕ) → n ≡ h.wires → (i : ℕ) → i < length excuses → get_or excuses i 0 < 2 ^ (2 * n)
  strikes n e i m =
      let l : i < h.excuses = omega (arith, ap length excuses-are, length-take-le h.excuses (drop h.rules masks) (omega (arith, z.count, length-drop h.rules masks))) in
      rw (e, excuses-are, get_or-take h.excuses (drop h.rules masks) i 0 l, get_or-drop h.rules masks i 0) (z.excuses i l)

  -- the faults of the combinations, and what the array had behind them
  unpacked-front : (table s u : List ℕ) → combinations ≤ length s
      → Faulted (length (take combinations s)) table (take combinations s) u → Faulted combinations table s (u ++ drop combinations s)
  unpacked-front table s u l f = record {
    long = omega (arith, f.long, front, length-append u (drop combinations s), length-drop combinations s);
    small = λ a h. rw (get_or-append u (drop combinations s) 0 a (omega (arith, f.long, front))) (f.small a (omega (arith, front)));
    bits = λ a x y h hx hy. rw (get_or-append u (drop combinations s) 0 a (omega (arith, f.long, front))) (f.bits a x y (omega (arith, front)) hx hy);
  }
    where
      front : length (take combinations s) ≡ combinations
      front = length-take-le combinations s l

  -- blank arrays were filled: the table of the rules' faults is all, struck where the excuses are it is table, its faults are fs, and the rows shown to A
  -- and to B are xs and ys
  module _ (blank : List ℕ) (long : length blank ≡ 4096) (ra rb : ℕ) (all table : Table) (front xs ys : List ℕ)
      (is-ra : ra ≡ 2 ^ ones h.sees_a) (is-rb : rb ≡ 2 ^ ones h.sees_b)
      (told : Faults h.wires (take h.rules masks) all) (struck : Struck excuses all table)
      (taken : Faulted (length (take combinations blank)) table.words (take combinations blank) front)
      (rows_a : Rows h.wires h.sees_a blank xs) (rows_b : Rows h.wires h.sees_b blank ys) where
    abbrev fs : List ℕ
    fs = front ++ drop combinations blank

    unpacked : Faulted combinations table.words blank fs
    unpacked = unpacked-front table.words blank front (omega (arith, unpack-room)) taken

    pub sound : Sound (grid (shape ra rb) xs ys fs)
    sound = record {
      sizes = record {
        rows_a = is-ra;
        rows_b = is-rb;
        combinations = are;
        mask_a = z.mask_a;
        mask_b = z.mask_b;
        few_a = let l : 2 ^ ones h.sees_a ≤ 2 ^ 8 = pow_mono z.sees_a in omega arith;
        few_b = let l : 2 ^ ones h.sees_b ≤ 2 ^ 8 = pow_mono z.sees_b in omega arith;
        few = omega (arith, z.wires);
      };
      long_a = omega (arith, unpack-room, rows_a.long);
      long_b = omega (arith, unpack-room, rows_b.long);
      long_faults = omega (arith, unpack-room, unpacked.long);
      is_a = λ a l. rows_a.rows a (rw are at l);
      is_b = λ a l. rows_b.rows a (rw are at l);
    }

    breaks-same : (a x y : ℕ) → a < 2 ^ h.wires → x < 2 → y < 2
        → (head_board h masks).breaks a x y ≡ eqb (bit (get_or fs a 0) (2 * x + y)) 1
    breaks-same a x y l lx ly =
        let digits : bit (get_or fs a 0) (2 * x + y) ≡ digit table.words a x y = unpacked.bits a x y (rw are l) lx ly in
        let at : Setting h.wires a x y = record { wires = omega (arith, z.wires); below = l; cell_a = lx; cell_b = ly } in
        let tells = told.tells a x y at in
        let left = (rw (told.wires, excuses-are) at struck.tells) a x y at in
        let rules = front-some (Breaks h.wires a x y) masks h.rules (omega (arith, z.count)) in
        let waived = front-some (Excuses h.wires a) (drop h.rules masks) h.excuses (omega (arith, z.count, length-drop h.rules masks)) in
        let test = front-faultb h.wires masks h.rules h.excuses a x y z.count in
        same_test _ _ (λ e. let t = test.0 e in eq-eqb _ 1 (digits ∙ left.1 (tells.1 (rules.1 t.0), λ w. t.1 (waived.0 w))))
        (λ e. let t = left.0 (sym digits ∙ eqb-true _ 1 e) in test.1 (rules.0 (tells.0 t.0), λ w. t.1 (waived.1 w)))

    same : Same (head_board h masks) (grid_board (grid (shape ra rb) xs ys fs))
    same = record {
      rows_a = sym is-ra;
      rows_b = sym is-rb;
      combinations = sym are;
      show_a = λ a l. sym (rows_a.rows a l);
      show_b = λ a l. sym (rows_b.rows a l);
      breaks = breaks-same;
    }

    pub board-solved : {entry exit : List ℕ} {o : Outcome}
        → SolvedOn (grid_board (grid (shape ra rb) xs ys fs)) entry o exit → SolvedOn (head_board h masks) entry o exit
    board-solved x = same-solved (shows h.wires h.sees_a h.sees_b (take h.rules masks) (take h.excuses (drop h.rules masks))) same x
