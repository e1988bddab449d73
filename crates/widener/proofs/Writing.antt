-- The sheet of two widened tables, written piece by piece from the front of a buffer.
--     first-asks, second-asks, third-room      there is room for each piece
--     wide-wrote                               the three pieces are the sheet
-- Assumes nothing.
use mathlib.Core.Path.{◌≡◌, ap, sym, ◌∙◌}
use mathlib.Core.List.{List, ◌++◌}
use Prim.Native.Nat.{ℕ, ◌+◌, ◌^◌, ◌<◌, ◌≤◌}
use native.Mathlib.Omega.{arith}
use lib.Count.{ones}
use lib.ListN.{length, drop, length-append}
use lib.Seq.{sets}
use Rattle.sheet.specs.declared.JobHead.{JobHead}
use Rattle.answer.specs.declared.page.Page.{Page}
use Rattle.answer.specs.Written.{two, table, tables_sheet}
use Rattle.steps.proofs.Runs.{joined}
use Rattle.answer.proofs.Sheets.{tables-length}
use Rattle.solver.proofs.Writing.{wrote}
use Rattle.widener.specs.Writing.{Widens, Wide, Widely, rows_from, sheet_from}
use Rattle.widener.proofs.Tabling.{few-rows, tabled-length}

module _ (hp hq : JobHead) (s l : List ℕ) (w : Wide hp hq s l) where
  abbrev rows_a : ℕ
  rows_a = 2 ^ ones hq.sees_a

  abbrev rows_b : ℕ
  rows_b = 2 ^ ones hq.sees_b

  pub first-asks : (p : Page) → p.bytes.now ≡ l → p.at ≡ 0 → Widens hp.sees_a hq.sees_a s 2 p
  first-asks p is z = record {
    few_seen = w.sees_a;
    more_seen = w.wide_a;
    there = omega (arith, w.tables.long);
    room = omega (arith, few-rows hq.sees_a w.wide_a, w.room, ap length is);
  }

  -- the first table was written, and what comes next stands at m₁
  module _ (l₁ : List ℕ) (m₁ ra : ℕ) (long₁ : length l₁ ≡ length l) (p₁ : m₁ ≡ 0 + 2 + rows_a) (is-ra : ra ≡ 2 ^ ones hp.sees_a) where
    pub second-asks : (p : Page) → p.bytes.now ≡ l₁ → p.at ≡ m₁ → Widens hp.sees_b hq.sees_b s (4 + ra) p
    second-asks p is z = record {
      few_seen = w.sees_b;
      more_seen = w.wide_b;
      there = omega (arith, w.tables.long);
      room = omega (arith, few-rows hq.sees_a w.wide_a, few-rows hq.sees_b w.wide_b, w.room, ap length is);
    }

    module _ (l₂ : List ℕ) (m₂ : ℕ) (long₂ : length l₂ ≡ length l₁) (p₂ : m₂ ≡ m₁ + 2 + rows_b) where
      pub third-room : m₂ + 2 ≤ length l₂
      third-room = omega (arith, few-rows hq.sees_a w.wide_a, few-rows hq.sees_b w.wide_b, w.room)

      module _ (l₃ : List ℕ) (m₃ : ℕ) (p₃ : m₃ ≡ m₂ + 2) where
        sheet-length : (n : ℕ) → length (sheet_from n hp hq s) ≡ 6 + rows_a + rows_b
        sheet-length n =
            tables-length (rows_from n hp.sees_a hq.sees_a s 2) (rows_from n hp.sees_b hq.sees_b s (4 + 2 ^ ones hp.sees_a))
            ∙ simp tabled-length

        all-length : (n : ℕ) → m₃ ≡ length (sheet_from n hp hq s)
        all-length n = omega (arith, sheet-length n)

        pub wide-wrote : ((n : ℕ) → hp.sees_a < 2 ^ n → hq.sees_a < 2 ^ n → l₁ ≡ sets l 0 (table (rows_from n hp.sees_a hq.sees_a s 2)))
            → ((n : ℕ) → hp.sees_b < 2 ^ n → hq.sees_b < 2 ^ n → l₂ ≡ sets l₁ m₁ (table (rows_from n hp.sees_b hq.sees_b s (4 + ra))))
            → l₃ ≡ sets l₂ m₂ (two 0) → Widely hp hq s l l₃ m₃
        wide-wrote e₁ e₂ e₃ = record { long = all-length; wrote = stands }
          where
            stands : (n : ℕ) → hp.sees_a < 2 ^ n → hp.sees_b < 2 ^ n → hq.sees_a < 2 ^ n → hq.sees_b < 2 ^ n
                → l₃ ≡ sheet_from n hp hq s ++ drop m₃ l
            stands n pa pb qa qb =
                let f₂ = rw is-ra at (e₂ n pb qb) in
                let xs = rows_from n hp.sees_a hq.sees_a s 2 in
                let ys = rows_from n hp.sees_b hq.sees_b s (4 + 2 ^ ones hp.sees_a) in
                let la : length xs ≡ rows_a = tabled-length _ 0 rows_a in
                let lb : length ys ≡ rows_b = tabled-length _ 0 rows_b in
                let long : length (table xs ++ table ys) ≡ length (table xs) + length (table ys) = length-append (table xs) (table ys) in
                let first = joined l l₁ l₂ 0 m₁ (table xs) (table ys) (e₁ n pa qa) (omega arith) f₂ in
                let all = joined l l₂ l₃ 0 m₂ (table xs ++ table ys) (two 0) first (omega arith) e₃ in
                wrote (tables_sheet xs ys) l l₃ (omega (arith, sheet-length n, few-rows hq.sees_a w.wide_a, few-rows hq.sees_b w.wide_b, w.room)) all
                ∙ ap (λ (m : ℕ). sheet_from n hp hq s ++ drop m l) (sym (all-length n))
