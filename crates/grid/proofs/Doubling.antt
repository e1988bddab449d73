-- Rows over one wire more, from the top: the laws by which the rows of a board are filled by doubling.
--     weight         what the wire at position p adds to a row where it is seen: 2 to the number of the wires seen below it
--     row_within     a row over the lowest p wires is below that weight
--     first-half     the combinations without the next wire show the row that they showed
--     second-half    those with it show that row and the wire's weight, where it is seen
--     weight-next    the weight doubles at a seen wire
-- Assumes nothing.
use mathlib.Core.Path.{◌≡◌, sym, ap, ◌∙◌}
use mathlib.Core.Logic.{⊎_elim}
use Prim.Native.Nat.{ℕ, zero, suc, ◌+◌, ◌*◌, ◌/◌, ◌%◌, ◌^◌, ◌<◌, ◌≤◌}
use native.Mathlib.Nat.{mod-one, mod-lt, pow-suc}
use native.Mathlib.Numerals.{add-one, one-add}
use native.Mathlib.Omega.{arith}
use lib.Arith.{lt-one}
use lib.Pow.{pow_pos, pow_mono, field, split, mod-mod-pow, mod-pow-add}
use lib.Count.{ones, ones_cat}
use Rattle.wires.specs.Wires.{wire, shown}
use Rattle.wires.proofs.Digits.{low_digit, wire-low, wire-high}
use Rattle.wires.proofs.Rows.{shown-off, shown-on, shown-zero, rows-off, rows_on}

abbrev pub weight : ℕ → ℕ → ℕ
weight p seen = 2 ^ ones (seen % 2 ^ p)

-- ---- the lowest digit of the wires below a position, and the others

low-low : (p n : ℕ) → n % 2 ^ suc p % 2 ≡ n % 2
low-low p n = ap (λ (k : ℕ). n % 2 ^ k % 2) (sym (add-one p)) ∙ mod-mod-pow n p 1

low_half : (p n : ℕ) → n % 2 ^ suc p / 2 ≡ n / 2 % 2 ^ p
low_half p n = ap (λ (k : ℕ). n % 2 ^ k / 2) (sym (add-one p)) ∙ field n p 1

pub weight-none : (seen : ℕ) → weight 0 seen ≡ 1
unfolding ones
weight-none seen = ap (λ (x : ℕ). 2 ^ ones x) (mod-one seen)

weight-off : (p seen : ℕ) → seen % 2 ≡ 0 → weight (suc p) seen ≡ weight p (seen / 2)
weight-off p seen e = rows-off (seen % 2 ^ suc p) (low-low p seen ∙ e) ∙ ap (λ (x : ℕ). 2 ^ ones x) (low_half p seen)

weight-on : (p seen : ℕ) → seen % 2 ≡ 1 → weight (suc p) seen ≡ weight p (seen / 2) * 2
weight-on p seen e = rows_on (seen % 2 ^ suc p) (low-low p seen ∙ e) ∙ ap (λ (x : ℕ). 2 ^ ones x * 2) (low_half p seen)

-- ---- rows

pub row_within : (p seen a : ℕ) → shown p seen a < weight p seen
unfolding shown
row_within zero seen a = pow_pos (ones (seen % 1))
row_within (suc p) seen a =
    ⊎_elim (λ e. omega (arith, shown-off p seen a e, weight-off p seen e, row_within p (seen / 2) (a / 2)))
    (λ e. omega (arith, shown-on p seen a e, weight-on p seen e, row_within p (seen / 2) (a / 2)))
    (low_digit seen)

pub first-half : (p seen i : ℕ) → i < 2 ^ p → shown (suc p) seen i ≡ shown p seen i
unfolding shown
first-half zero seen i l = ap (shown 1 seen) (lt-one l) ∙ shown-zero 1 seen
first-half (suc p) seen i l =
    let ih = first-half p (seen / 2) (i / 2) (omega arith) in
    ⊎_elim (λ e. shown-off (suc p) seen i e ∙ ih ∙ sym (shown-off p seen i e))
    (λ e. omega (arith, shown-on (suc p) seen i e, ih, shown-on p seen i e))
    (low_digit seen)

half : (p i : ℕ) → (2 ^ suc p + i) / 2 ≡ 2 ^ p + i / 2
half p i = omega arith

pub second-half : (p seen i w : ℕ) → i < 2 ^ p → wire seen p ≡ w → shown (suc p) seen (2 ^ p + i) ≡ shown p seen i + w * weight p seen
unfolding shown
second-half zero seen i w l h =
    let one = ap (λ (x : ℕ). w * x) (weight-none seen) in
    ⊎_elim (λ e. omega (arith, shown-off 0 seen (1 + i) e, wire-low seen, one))
    (λ e. omega (arith, shown-on 0 seen (1 + i) e, wire-low seen, one))
    (low_digit seen)
second-half (suc p) seen i w l h =
    let ih = second-half p (seen / 2) (i / 2) w (omega arith) (sym (wire-high seen p) ∙ h) in
    let same = ap (shown (suc p) (seen / 2)) (half p i) in
    ⊎_elim
    (λ e. omega (arith, shown-off (suc p) seen (2 ^ suc p + i) e, same, ih, shown-off p seen i e, ap (λ (x : ℕ). w * x) (weight-off p seen e)))
    (λ e. omega (arith, shown-on (suc p) seen (2 ^ suc p + i) e, same, ih, shown-on p seen i e, ap (λ (x : ℕ). w * x) (weight-on p seen e)))
    (low_digit seen)

-- ---- weights

ones-wire : (n p : ℕ) → ones (wire n p) ≡ wire n p
unfolding ones
ones-wire n p = ⊎_elim (λ e. ap ones e ∙ sym e) (λ e. ap ones e ∙ sym e) (low_digit (n / 2 ^ p))

pub ones-next : (p seen : ℕ) → ones (seen % 2 ^ suc p) ≡ wire seen p + ones (seen % 2 ^ p)
ones-next p seen =
    ap (λ (k : ℕ). ones (seen % 2 ^ k)) (sym (one-add p))
    ∙ ap ones (mod-pow-add seen 1 p)
    ∙ ones_cat p (wire seen p) (seen % 2 ^ p) (mod-lt seen (pow_pos p))
    ∙ ap (λ (x : ℕ). x + ones (seen % 2 ^ p)) (ones-wire seen p)

pub ones-within : (p seen : ℕ) → ones (seen % 2 ^ p) ≤ ones seen
ones-within p seen =
    omega (arith, ap ones (split seen p), ones_cat p (seen / 2 ^ p) (seen % 2 ^ p) (mod-lt seen (pow_pos p)))

pub weight-same : (p seen : ℕ) → wire seen p ≡ 0 → weight (suc p) seen ≡ weight p seen
weight-same p seen e = ap (λ (k : ℕ). 2 ^ k) (omega (arith, ones-next p seen))

pub weight-next : (p seen : ℕ) → wire seen p ≡ 1 → weight (suc p) seen ≡ weight p seen * 2
weight-next p seen e = ap (λ (k : ℕ). 2 ^ k) more ∙ pow-suc 2 (ones (seen % 2 ^ p))
  where
    more : ones (seen % 2 ^ suc p) ≡ suc (ones (seen % 2 ^ p))
    more = omega (arith, ones-next p seen)

-- a cell that sees at most 8 wires has rows below 256
pub weight-most : (p seen : ℕ) → ones seen ≤ 8 → weight p seen ≤ 256
weight-most p seen h = pow_mono {j = 8} (omega (arith, ones-within p seen))
