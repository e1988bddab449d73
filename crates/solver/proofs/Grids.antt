-- The arrays of a search, and the sheets of what it found. A state of 512 places is lent up to the rows of the grid, scratch has 8,184 bytes.
--     blank-length, searches                        what a search is given
--     state-fits, state-length, tables-room         the front of the state, where the search found the first pair, and room for its sheet
--     tables-solved                                 its sheet solves the board
--     walk-fits, walk-length, walk-room             the front of the scratch, where the search found a walk, and room for its sheet
--     walk-solved                                   its sheet solves the board
-- Assumes nothing.
use mathlib.Core.Path.{◌≡◌, sym, ap, subst, ◌∙◌}
use mathlib.Core.List.{List, ◌++◌}
use Prim.Native.Nat.{ℕ, ◌+◌, ◌/◌, ◌≤◌}
use native.Mathlib.Omega.{arith}
use lib.ListN.{length, take, drop, replicate, length-append, length-drop, length-replicate, get_or-replicate, take-append-drop}
use lib.Seq.{get_or-take, get_or-drop, take_at, length-take-le}
use Rattle.steps.specs.declared.Outcome.{Outcome}
use Rattle.steps.specs.Outcome.{success}
use Rattle.answer.specs.AnswerSheet.{longest}
use Rattle.answer.specs.Written.{two, tables_sheet, walk_sheet, IsPair}
use Rattle.answer.specs.declared.page.Page.{Page}
use Rattle.answer.specs.Page.{Room, Wrote}
use Rattle.answer.proofs.Pieces.{from_front}
use Rattle.answer.proofs.Sheets.{tables-length, walk-length as walk-sheet-length}
use Rattle.board.specs.Tables.{First}
use Rattle.grid.specs.Grid.{Sound, grid_board}
use Rattle.grid.specs.Grid.{Grid}
use Rattle.search.specs.Settle.{WalkWritten, Searches}
use Rattle.solver.specs.Solved.{Wrote as Written, SolvedOn, tables, walk}

module _ {g : Grid} (ok : Sound g) where
  abbrev rows_a : ℕ
  rows_a = g.shape.rows_a

  abbrev rows : ℕ
  rows = rows_a + g.shape.rows_b

  few : rows ≤ 512
  few = omega (arith, ok.sizes.few_a, ok.sizes.few_b)

  pub blank-length : rows ≡ length {A = ℕ} (take rows (replicate 512 2))
  blank-length = sym (length-take-le rows (replicate 512 2) (omega (arith, few, length-replicate {A = ℕ} 512 2)))

  pub searches : Searches g (take rows (replicate 512 2)) (replicate 8184 0)
  searches = record {
    long = sym blank-length;
    unsettled = λ r h. get_or-take rows (replicate 512 2) r 0 h ∙ get_or-replicate 512 r 2 0 (omega (arith, few));
    space = omega (arith, few, length-replicate {A = ℕ} 8184 0);
  }

  -- ---- the first pair

  module _ (S more : List ℕ) (first : First (grid_board g) S) where
    abbrev front : List ℕ
    front = take rows (S ++ more)

    long : length S ≡ rows
    long = first.pair.tables.long

    pub state-fits : rows ≤ length (S ++ more)
    state-fits = omega (arith, long, length-append S more)

    front-is : front ≡ S
    front-is = take_at S more rows long

    pub state-length : rows ≡ length front
    state-length = sym (ap length front-is ∙ long)

    is-pair : IsPair rows_a g.shape.rows_b (take rows_a S) (drop rows_a S)
    is-pair = record {
      long_a = length-take-le rows_a S (omega (arith, long));
      long_b = omega (arith, length-drop rows_a S, long);
      bits_a = λ r h. rw (get_or-take rows_a S r 0 h) (first.pair.tables.bits r (omega arith));
      bits_b = λ r h. rw (get_or-drop rows_a S r 0) (first.pair.tables.bits (rows_a + r) (omega arith));
    }

    -- their sheet is written on a page from its front on
    module _ (p : Page) (start : p.at ≡ 0) (long_enough : longest ≤ length p.bytes.now) where
      pub tables-room : Room p (tables_sheet (take rows_a front) (drop rows_a front))
      tables-room = omega (arith, tables-length (take rows_a front) (drop rows_a front), length-take-le rows_a front (omega (arith, state-length)), length-drop rows_a front, state-length, few)

      pub tables-solved : {q : Page} {exit : List ℕ} {o : Outcome} → Wrote p (tables_sheet (take rows_a front) (drop rows_a front)) q
          → exit ≡ q.bytes.now → o ≡ success 20 q.at → SolvedOn (grid_board g) p.bytes.now o exit
      tables-solved {q} {exit} {o} x same e =
          let xs = take rows_a S in
          let ys = drop rows_a S in
          let sheet : tables_sheet (take rows_a front) (drop rows_a front) ≡ tables_sheet xs ys =
          ap (λ (l : List ℕ). tables_sheet (take rows_a l) (drop rows_a l)) front-is in
          let place : q.at ≡ length (tables_sheet (take rows_a front) (drop rows_a front)) = omega (arith, x.stored.value, start) in
          tables xs ys is-pair (subst (First (grid_board g)) (sym (take-append-drop rows_a S)) first)
          (e ∙ ap (success 20) (place ∙ ap length sheet))
          (subst (λ (l : List ℕ). Written l p.bytes.now exit) sheet (same ∙ from_front start tables-room x))

  -- ---- a walk

  module _ (W : List ℕ) (end : ℕ) (x : WalkWritten g W end) where
    abbrev bytes : List ℕ
    bytes = take end W

    pub walk-fits : end ≤ length W
    walk-fits = x.within

    pub walk-length : end ≡ length bytes
    walk-length = sym (length-take-le end W x.within)

    sheet-is : two 0 ++ two 0 ++ two (length bytes / 4) ++ bytes ≡ walk_sheet x.entries
    sheet-is =
        let count : length bytes / 4 ≡ length x.entries = omega (arith, walk-length, x.end_is) in
        rw (count, x.bytes)

    -- its sheet is written on a page from its front on
    module _ (p : Page) (start : p.at ≡ 0) (long_enough : longest ≤ length p.bytes.now) (scratch : length W ≤ 8184) where
      pub walk-room : Room p (two 0 ++ two 0 ++ two (length bytes / 4) ++ bytes)
      walk-room = omega (arith, walk-length, x.within)

      pub walk-solved : {q : Page} {exit : List ℕ} {o : Outcome} → Wrote p (two 0 ++ two 0 ++ two (length bytes / 4) ++ bytes) q
          → exit ≡ q.bytes.now → o ≡ success 21 q.at → SolvedOn (grid_board g) p.bytes.now o exit
      walk-solved {q} {exit} {o} y same e =
          let size : q.at ≡ length (walk_sheet x.entries) = omega (arith, y.stored.value, start, walk-length, x.end_is, walk-sheet-length x.entries) in
          walk x.entries x.walks x.stands (omega (arith, x.few)) (e ∙ ap (success 21) size)
          (subst (λ (l : List ℕ). Written l p.bytes.now exit) sheet-is (same ∙ from_front start walk-room y))
