-- The parts of a set: the next one by a wrapping subtraction, and each combination as a part of the wires seen and a part of the others. Assumes nothing.
use Rattle.std.proofs.Common.{◌≡◌, ℕ, zero, suc, ◌+◌, ◌-◌, ◌*◌, ◌/◌, ◌%◌, ◌^◌, ◌<◌, ◌≤◌, sym, refl, ap, ◌∙◌, ap₂, ⊎_elim, eq-or-lt_of_le, pow-suc, sub-add_cancel, arith, pow-add}
use lib.Arith.{le-zero}
use lib.Bits.{bit_and, and_step, and_le_r}
use lib.Count.{ones, ones-le}
use Rattle.wires.specs.Wires.{shown, placed}
use Rattle.wires.proofs.Digits.{low_digit, half-below}
use Rattle.wires.proofs.Rows.{shown-off, shown-on, rows-off, rows_on, placed_off, placed_on}

-- ---- the next part

double : (m n : ℕ) → m * 2 ^ suc n ≡ m * 2 ^ n * 2
double m n = omega (arith, ap (λ (x : ℕ). m * x) (pow-suc 2 n))

and-off : (a b : ℕ) → b % 2 ≡ 0 → bit_and a b ≡ bit_and (a / 2) (b / 2) * 2 + 0
and-off a b e = omega (arith, and_step a b)

and-on : (a b : ℕ) → b % 2 ≡ 1 → bit_and a b ≡ bit_and (a / 2) (b / 2) * 2 + a % 2
and-on a b e = omega (arith, and_step a b)

-- `up` is `placed n unseen k - unseen - 1 + c` in n digits: at each member of the set the carry c is added to the digit of k, elsewhere it is handed on
carried : (n unseen k c up m : ℕ) → unseen < 2 ^ n → c < 2 → up + unseen + 1 ≡ placed n unseen k + c + m * 2 ^ n → bit_and up unseen ≡ placed n unseen (k + c)
unfolding placed
carried zero unseen k c up m h hc e = omega (arith, and_le_r up unseen)
carried (suc n) unseen k c up m h hc e =
    ⊎_elim
    (λ d. and-off up unseen d
    ∙ ap (λ (x : ℕ). x * 2 + 0) (carried n (unseen / 2) k c (up / 2) m (half-below n h) hc (omega (arith, double m n, placed_off n unseen k d)))
    ∙ sym (placed_off n unseen (k + c) d))
    (λ d. and-on up unseen d
    ∙ ap₂ (λ (x y : ℕ). x * 2 + y)
    (carried n (unseen / 2) (k / 2) ((k % 2 + c) / 2) (up / 2) m (half-below n h) (omega arith) (omega (arith, double m n, placed_on n unseen k d))
    ∙ ap (placed n (unseen / 2)) halves)
    (omega (arith, double m n, placed_on n unseen k d))
    ∙ sym (placed_on n unseen (k + c) d))
    (low_digit unseen)
  where
    halves : k / 2 + (k % 2 + c) / 2 ≡ (k + c) / 2
    halves = omega arith

-- the difference in 32 digits, masked, is the next part
pub next-is : (n part unseen up k : ℕ) → n ≤ 32 → unseen < 2 ^ n → part ≡ placed n unseen k → (up + unseen) % 2 ^ 32 ≡ part → bit_and up unseen ≡ placed n unseen (k + 1)
next-is n part unseen up k hn h e wraps = carried n unseen k 1 up ((up + unseen) / 2 ^ 32 * 2 ^ (32 - n)) h (omega arith) sum
  where
    -- 2 ^ 32 is a multiple of 2 ^ n
    power : 2 ^ (32 - n) * 2 ^ n ≡ 2 ^ 32
    power = sym (pow-add 2 (32 - n) n) ∙ ap (λ (x : ℕ). 2 ^ x) (sub-add_cancel hn)

    sum : up + unseen + 1 ≡ placed n unseen k + 1 + (up + unseen) / 2 ^ 32 * 2 ^ (32 - n) * 2 ^ n
    sum = omega (arith, ap (λ (x : ℕ). (up + unseen) / 2 ^ 32 * x) power)

-- ---- a set and all else: each wire is in one of the two

kept_off : (n seen a : ℕ) → seen % 2 ≡ 0 → placed (suc n) seen (shown (suc n) seen a) ≡ placed n (seen / 2) (shown n (seen / 2) (a / 2)) * 2 + 0
kept_off n seen a e = ap (placed (suc n) seen) (shown-off n seen a e) ∙ placed_off n seen (shown n (seen / 2) (a / 2)) e

kept_on : (n seen a : ℕ) → seen % 2 ≡ 1 → placed (suc n) seen (shown (suc n) seen a) ≡ placed n (seen / 2) (shown n (seen / 2) (a / 2)) * 2 + a % 2
kept_on n seen a e = omega (arith, placed_on n seen (shown (suc n) seen a) e, shown-on n seen a e, ap (placed n (seen / 2)) half)
  where
    half : shown (suc n) seen a / 2 ≡ shown n (seen / 2) (a / 2)
    half = omega (arith, shown-on n seen a e)

-- a combination is its two rows put together
pub parts-of : (n seen unseen a : ℕ) → seen + unseen + 1 ≡ 2 ^ n → a < 2 ^ n → placed n seen (shown n seen a) + placed n unseen (shown n unseen a) ≡ a
unfolding placed
parts-of zero seen unseen a h ha = omega arith
parts-of (suc n) seen unseen a h ha =
    let ih = parts-of n (seen / 2) (unseen / 2) (a / 2) (omega arith) (half-below n ha) in
    ⊎_elim (λ e. omega (arith, kept_off n seen a e, kept_on n unseen a (omega arith), ih))
    (λ e. omega (arith, kept_on n seen a e, kept_off n unseen a (omega arith), ih))
    (low_digit seen)

-- two rows put together: the lowest wire, and the wires above it
module _ (n seen unseen row k : ℕ) (h : seen + unseen + 1 ≡ 2 ^ suc n) where
  abbrev both : ℕ
  both = placed (suc n) seen row + placed (suc n) unseen k

  half-off : seen % 2 ≡ 0 → both / 2 ≡ placed n (seen / 2) row + placed n (unseen / 2) (k / 2)
  half-off e = omega (arith, placed_off n seen row e, placed_on n unseen k (omega arith))

  half-on : seen % 2 ≡ 1 → both / 2 ≡ placed n (seen / 2) (row / 2) + placed n (unseen / 2) k
  half-on e = omega (arith, placed_on n seen row e, placed_off n unseen k (omega arith))

  low-on : seen % 2 ≡ 1 → both % 2 ≡ row % 2
  low-on e = omega (arith, placed_on n seen row e, placed_off n unseen k (omega arith))

-- what two rows put together show to a cell is the row put at the wires that it sees
pub part-shows : (n seen unseen row k : ℕ) → seen + unseen + 1 ≡ 2 ^ n → row < 2 ^ ones seen → shown n seen (placed n seen row + placed n unseen k) ≡ row
unfolding shown
part-shows zero seen unseen row k h hr = omega (arith, none)
  where
    none : 2 ^ ones seen ≡ 1
    none = ap (λ (x : ℕ). 2 ^ x) (le-zero (ones-le 0 seen (omega arith)))
part-shows (suc n) seen unseen row k h hr =
    ⊎_elim
    (λ e. shown-off n seen (both n seen unseen row k h) e
    ∙ ap (shown n (seen / 2)) (half-off n seen unseen row k h e)
    ∙ part-shows n (seen / 2) (unseen / 2) row (k / 2) (omega arith) (omega (arith, rows-off seen e)))
    (λ e. shown-on n seen (both n seen unseen row k h) e
    ∙ omega (arith, low-on n seen unseen row k h e, ap (shown n (seen / 2)) (half-on n seen unseen row k h e), part-shows n (seen / 2) (unseen / 2) (row / 2) k (omega arith) (omega (arith, rows_on seen e))))
    (low_digit seen)

-- two rows put together are a combination
pub part-below : (n seen unseen row k : ℕ) → seen + unseen + 1 ≡ 2 ^ n → placed n seen row + placed n unseen k < 2 ^ n
unfolding placed
part-below zero seen unseen row k h = omega arith
part-below (suc n) seen unseen row k h =
    ⊎_elim
    (λ e. omega (arith, placed_off n seen row e, placed_on n unseen k (omega arith), part-below n (seen / 2) (unseen / 2) row (k / 2) (omega arith)))
    (λ e. omega (arith, placed_on n seen row e, placed_off n unseen k (omega arith), part-below n (seen / 2) (unseen / 2) (row / 2) k (omega arith)))
    (low_digit seen)

-- ---- the order of the parts

-- a larger row is a larger part
pub part-rises : (n unseen k j : ℕ) → unseen < 2 ^ n → k < j → j < 2 ^ ones unseen → placed n unseen k < placed n unseen j
part-rises zero unseen k j h l hj = absurd (omega (arith, none))
  where
    none : 2 ^ ones unseen ≡ 1
    none = ap (λ (x : ℕ). 2 ^ x) (le-zero (ones-le 0 unseen h))
part-rises (suc n) unseen k j h l hj =
    ⊎_elim
    (λ e. omega (arith, placed_off n unseen k e, placed_off n unseen j e, part-rises n (unseen / 2) k j (half-below n h) l (omega (arith, rows-off unseen e))))
    (λ e. ⊎_elim
    (λ q. omega (arith, q, placed_on n unseen k e, placed_on n unseen j e, ap (placed n (unseen / 2)) q))
    (λ m. omega (arith, placed_on n unseen k e, placed_on n unseen j e, part-rises n (unseen / 2) (k / 2) (j / 2) (half-below n h) m (omega (arith, rows_on unseen e))))
    (eq-or-lt_of_le half))
    (low_digit unseen)
  where
    half : k / 2 ≤ j / 2
    half = omega arith

-- the first part is 0
pub part-first : (n unseen : ℕ) → placed n unseen 0 ≡ 0
unfolding placed
part-first zero unseen = refl
part-first (suc n) unseen =
    ⊎_elim (λ e. omega (arith, placed_off n unseen 0 e, part-first n (unseen / 2)))
    (λ e. omega (arith, placed_on n unseen 0 e, part-first n (unseen / 2)))
    (low_digit unseen)

-- after the last part comes 0 again
pub part-last : (n unseen : ℕ) → placed n unseen (2 ^ ones unseen) ≡ 0
unfolding placed
part-last zero unseen = refl
part-last (suc n) unseen =
    ⊎_elim (λ e. omega (arith, placed_off n unseen (2 ^ ones unseen) e, ap (placed n (unseen / 2)) (rows-off unseen e), part-last n (unseen / 2)))
    (λ e. omega (arith, placed_on n unseen (2 ^ ones unseen) e, rows_on unseen e, ap (placed n (unseen / 2)) (half e), part-last n (unseen / 2)))
    (low_digit unseen)
  where
    half : unseen % 2 ≡ 1 → 2 ^ ones unseen / 2 ≡ 2 ^ ones (unseen / 2)
    half e = omega (arith, rows_on unseen e)
