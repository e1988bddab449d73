-- The lines of a walk, written one after the other.
--     line-short                   a line has at most ten bytes
--     lines_left, left-more        the lines that are left, and the next of them
--     lines-room, lines-printed    there is room for all, and once they are written the walk is printed
-- Assumes nothing.
use mathlib.Core.Path.{◌≡◌, sym, ap, ◌∙◌}
use mathlib.Core.List.{List, [], ◌++◌}
use Prim.Native.Nat.{ℕ, zero, suc, ◌+◌, ◌*◌, ◌-◌, ◌<◌, ◌≤◌}
use native.Mathlib.Nat.{sub-zero}
use native.Mathlib.Omega.{arith}
use lib.ListN.{length, length-append}
use Rattle.answer.specs.Answer.{Entry}
use Rattle.answer.specs.declared.page.Page.{Page}
use Rattle.answer.specs.Page.{Room, Wrote}
use Rattle.answer.proofs.Pieces.{Left, both, left_done, next_room}
use Rattle.board.specs.Places.{word_at, claim_in, combination_in}
use Rattle.text.specs.Decimal.{decimal}
use Rattle.text.specs.Text.{head_walk, line_of, lines, walk_text}
use Rattle.text.specs.Printing.{entries_from, Prints, WalkAsk, walk_of}
use Rattle.text.proofs.Decimals.{decimal-short}
use Rattle.text.proofs.Tables.{printed}

abbrev entry_of : (claim combination : ℕ) → Entry
entry_of claim combination = record { says = claim; by = combination }

pub line-short : (e : Entry) → e.says < 10000 → e.by < 10000 → length (line_of e) ≤ 10
line-short e a b =
    let l : length (line_of e) ≡ length (decimal e.says) + suc (length (decimal e.by)) + 1 = simp length-append (omega arith) in
    omega (arith, decimal-short 4 e.says, decimal-short 4 e.by)

-- so the lines of k entries, from entry i on, are short too
lines-short : (s : List ℕ) (i k : ℕ) → ((j : ℕ) → j < i + k → claim_in s j < 10000) → ((j : ℕ) → j < i + k → combination_in s j < 10000)
    → length (lines (entries_from s i k)) ≤ 10 * k
unfolding entries_from lines
lines-short s i zero a b = omega arith
lines-short s i (suc k) a b =
    let e = entry_of (claim_in s i) (combination_in s i) in
    omega (
      arith,
      length-append (line_of e) (lines (entries_from s (i + 1) k)),
      line-short e (a i (omega arith)) (b i (omega arith)),
      lines-short s (i + 1) k (λ j l. a j (omega arith)) (λ j l. b j (omega arith)),
    )

module _ (s : List ℕ) (n : ℕ) where
  -- the lines that are left where i are written
  abbrev pub lines_left : ℕ → List ℕ
  lines_left i = lines (entries_from s i (n - i))

  left-zero : lines_left 0 ≡ lines (entries_from s 0 n)
  left-zero = ap (λ (k : ℕ). lines (entries_from s 0 k)) (sub-zero n)

  left-none : (i : ℕ) → n ≤ i → lines_left i ≡ []
  unfolding entries_from lines
  left-none i h = let e : n - i ≡ 0 = omega arith in ap (λ (k : ℕ). lines (entries_from s i k)) e

  -- the next line, of a claim and a combination that stand in the sheet
  module _ (i : ℕ) (more : i < n) (claim combination : ℕ) (c : claim ≡ claim_in s i) (b : combination ≡ combination_in s i) where
    pub left-more : lines_left i ≡ line_of (entry_of claim combination) ++ lines_left (i + 1)
    unfolding entries_from lines
    left-more =
        let e : n - i ≡ suc (n - (i + 1)) = omega arith in
        ap (λ (k : ℕ). lines (entries_from s i k)) e ∙ ap (λ (e : Entry). line_of e ++ lines_left (i + 1)) (λ k. entry_of (sym c k) (sym b k))

  module _ (p : Page) (start : p.at ≡ 0) (ask : WalkAsk s p.bytes.now) (count : n ≡ word_at s 4) where
    fits : Room p (walk_text (entries_from s 0 n))
    fits = omega (arith, lines-short s 0 n (λ j l. ask.claims j (omega arith)) (λ j l. ask.combinations j (omega arith)), ask.most, ask.room)

    -- the first line is written
    module _ {p₁ : Page} (x₁ : Wrote p head_walk p₁) where
      pub lines-room : Room p₁ (lines_left 0)
      lines-room = rw left-zero (next_room x₁ (lines (entries_from s 0 n)) fits)

      pub lines-printed : {q : Page} (i : ℕ) → Left p₁ (lines_left 0) q (lines_left i) → n ≤ i → {exit : List ℕ} → exit ≡ q.bytes.now → Prints (walk_of s) p.bytes.now exit q.at
      lines-printed {q} i x h {exit} same =
          let all : Wrote p₁ (lines (entries_from s 0 n)) q = rw (← left-zero) (left_done x (left-none i h)) in
          rw (← count) (printed (walk_text (entries_from s 0 n)) start fits (both x₁ all) same)
