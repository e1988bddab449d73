-- A list by its rule, `tabled f i k`, and the loop that stores one.
--     tabled-length, tabled-at     how long it is, and what stands at each place
--     tabled-same                  rules that agree on its numbers make the same list
--     tabled-turn, tabled-done     a turn of the loop that stores it, and its end
--     table-stored                 a count and then its rows are a table
--     few-rows                     a cell has at most 256 rows
--     Storing, storing-none, storing-turn, storing-all     the loop that stores a widened table
-- Assumes nothing.
use mathlib.Core.Path.{◌≡◌, refl, sym, ap, ap₂, ◌∙◌}
use mathlib.Core.List.{List, [], ◌∷◌}
use Prim.Native.Nat.{ℕ, zero, suc, ◌+◌, ◌-◌, ◌^◌, ◌<◌, ◌≤◌}
use native.Mathlib.Nat.{add-zero, sub-zero, not-suc-le-zero}
use native.Mathlib.Omega.{arith}
use lib.Count.{ones}
use lib.ListN.{length, get_or, set}
use lib.Pow.{pow_mono}
use lib.Seq.{sets}
use Rattle.wires.specs.Wires.{shown, placed}
use Rattle.answer.specs.Written.{two, table}
use Rattle.steps.proofs.Runs.{joined}
use Rattle.answer.specs.declared.page.Page.{Page}
use Rattle.answer.specs.Page.{Wrote}
use Rattle.answer.proofs.Pieces.{same_long}
use Rattle.widener.specs.Table.{tabled, narrow_row}
use Rattle.widener.specs.Writing.{WidenedOn}

pub tabled-length : (f : ℕ → ℕ) (i k : ℕ) → length (tabled f i k) ≡ k
unfolding tabled
tabled-length f i zero = refl
tabled-length f i (suc k) = ap suc (tabled-length f (i + 1) k)

-- what stands at each place
pub tabled-at : (f : ℕ → ℕ) (i k r : ℕ) → r < k → get_or (tabled f i k) r 0 ≡ f (i + r)
unfolding tabled
tabled-at f i zero r h = absurd (not-suc-le-zero h)
tabled-at f i (suc k) zero h = ap f (sym (add-zero i))
tabled-at f i (suc k) (suc r) h =
    let e : i + 1 + r ≡ i + suc r = omega arith in
    tabled-at f (i + 1) k r (omega arith) ∙ ap f e

pub tabled-same : (f g : ℕ → ℕ) (i k : ℕ) → ((r : ℕ) → r < i + k → f r ≡ g r) → tabled f i k ≡ tabled g i k
unfolding tabled
tabled-same f g i zero e = refl
tabled-same f g i (suc k) e = ap₂ ◌∷◌ (e i (omega arith)) (tabled-same f g (i + 1) k (λ r l. e r (omega arith)))

stored : (f : ℕ → ℕ) (l : List ℕ) (at i k : ℕ) → sets l (at + i) (tabled f i (suc k)) ≡ sets (set l (at + i) (f i)) (at + (i + 1)) (tabled f (i + 1) k)
unfolding tabled
stored f l at i k =
    let e : suc (at + i) ≡ at + (i + 1) = omega arith in
    ap (λ (m : ℕ). sets (set l (at + i) (f i)) m (tabled f (i + 1) k)) e

-- a turn of the loop that stores the list, i of whose numbers are stored
pub tabled-turn : (f : ℕ → ℕ) (l : List ℕ) (at i rows x : ℕ) → i < rows → x ≡ f i
    → sets l (at + i) (tabled f i (rows - i)) ≡ sets (set l (at + i) x) (at + (i + 1)) (tabled f (i + 1) (rows - (i + 1)))
tabled-turn f l at i rows x h e =
    let k : rows - i ≡ suc (rows - (i + 1)) = omega arith in
    rw (k, e) (stored f l at i (rows - (i + 1)))

tabled-none : (f : ℕ → ℕ) (i : ℕ) → tabled f i 0 ≡ []
unfolding tabled
tabled-none f i = refl

pub tabled-done : (f : ℕ → ℕ) (l : List ℕ) (at i rows : ℕ) → rows ≤ i → sets l at (tabled f i (rows - i)) ≡ l
tabled-done f l at i rows h =
    let k : rows - i ≡ 0 = omega arith in
    rw (k, tabled-none f i)

-- l₁ is l after the count of xs, and l₂ is l₁ after xs
pub table-stored : (l l₁ l₂ xs : List ℕ) (at start rows : ℕ) → length xs ≡ rows → l₁ ≡ sets l at (two rows) → start ≡ at + 2 → l₂ ≡ sets l₁ start xs
    → l₂ ≡ sets l at (table xs)
table-stored l l₁ l₂ xs at start rows long e p f = joined l l₁ l₂ at start (two (length xs)) xs (rw long e) p f

-- a cell that sees at most 8 wires has at most 256 rows
pub few-rows : (seen : ℕ) → ones seen ≤ 8 → 2 ^ ones seen ≤ 256
few-rows seen l = pow_mono {j = 8} l

-- ---- the loop of `widen_table`

-- row k of the widened table, from the bytes at the place `first` of a sheet
abbrev pub row_from : (n few more : ℕ) (s : List ℕ) (first k : ℕ) → ℕ
row_from n few more s first k = get_or s (first + narrow_row n few more k) 0

-- i of the rows are written on the page q, which was p after the count of them
pub record Storing (few more : ℕ) (s : List ℕ) (first : ℕ) (p : Page) (rows : ℕ) (q : Page) (i : ℕ) : Type 0 where
  pub same : q.bytes.ghost_name ≡ p.bytes.ghost_name
  pub long : length q.bytes.now ≡ length p.bytes.now
  pub at : q.at ≡ p.at + i
  pub left : (n : ℕ) → few < 2 ^ n → more < 2 ^ n
      → sets p.bytes.now p.at (tabled (row_from n few more s first) 0 rows) ≡ sets q.bytes.now (p.at + i) (tabled (row_from n few more s first) i (rows - i))

module _ (few more : ℕ) (s : List ℕ) (first : ℕ) (p : Page) (rows : ℕ) where
  pub storing-none : Storing few more s first p rows p 0
  storing-none = record { same = refl; long = refl; at = omega arith; left = λ n lf lm. simp (add-zero, sub-zero) }

  -- a row was placed in the combination a, which shows the row r
  pub storing-turn : (q t : Page) (i a r : ℕ) → Storing few more s first p rows q i → i < rows
      → ((n : ℕ) → more < 2 ^ n → a ≡ placed n more i) → ((n : ℕ) → few < 2 ^ n → r ≡ shown n few a)
      → Wrote q (get_or s (first + r) 0 ∷ []) t → Storing few more s first p rows t (i + 1)
  storing-turn q t i a r inv l ea er w = record {
    same = w.same ∙ inv.same;
    long = same_long w ∙ inv.long;
    at = omega (arith, w.stored.value, inv.at);
    left = λ n lf lm. inv.left n lf lm
        ∙ tabled-turn (row_from n few more s first) q.bytes.now p.at i rows (get_or s (first + r) 0) l
        (ap (λ (m : ℕ). get_or s (first + m) 0) (er n lf ∙ ap (shown n few) (ea n lm)))
        ∙ ap (λ (b : List ℕ). sets b (p.at + (i + 1)) (tabled (row_from n few more s first) (i + 1) (rows - (i + 1))))
        (ap (λ (k : ℕ). set q.bytes.now k (get_or s (first + r) 0)) (sym inv.at) ∙ sym w.stored.out_after);
  }

  -- every row is written, after the count of them
  pub storing-all : (o q : Page) (i : ℕ) → Storing few more s first p rows q i → rows ≤ i → i ≤ rows → rows ≡ 2 ^ ones more → Wrote o (two rows) p → WidenedOn few more s first o q
  storing-all o q i inv l le count w = record {
    same = inv.same ∙ w.same;
    long = inv.long ∙ same_long w;
    at = omega (arith, inv.at, w.stored.value);
    rows = λ n lf lm. rw (← count)
        (table-stored o.bytes.now p.bytes.now q.bytes.now (tabled (row_from n few more s first) 0 rows) o.at p.at rows (tabled-length (row_from n few more s first) 0 rows) w.stored.out_after w.stored.value
        (sym (inv.left n lf lm ∙ tabled-done (row_from n few more s first) q.bytes.now (p.at + i) i rows l)));
  }
