-- The lowest wire of a mask, and the mask without it, `s & (s - 1)`. Assumes nothing.
use Rattle.std.proofs.Common.{◌≡◌, ℕ, zero, suc, ◌+◌, ◌-◌, ◌*◌, ◌/◌, ◌%◌, ◌^◌, ◌<◌, sym, ap, ◌∙◌, ap₂, ⊎_elim, pow-suc, arith}
use lib.Bits.{bit_and, and_step, and_self, and_le_r}
use lib.Count.{ones, ones_step, count_trailing_zeros, under}
use Rattle.wires.specs.Wires.{wire, shown, placed}
use Rattle.wires.proofs.Digits.{low_digit, wire-low, wire-high, half-below}
use Rattle.wires.proofs.Rows.{shown-on, shown-off, placed_on, placed_off}

-- the mask without its lowest wire
abbrev pub rest : ℕ → ℕ
rest s = bit_and s (s - 1)

pub rest-on : (s : ℕ) → s % 2 ≡ 1 → rest s ≡ s / 2 * 2
rest-on s e = omega (arith, and_step s (s - 1), ap (bit_and (s / 2)) halves, and_self (s / 2))
  where
    halves : (s - 1) / 2 ≡ s / 2
    halves = omega arith

pub rest-off : (s : ℕ) → s % 2 ≡ 0 → 0 < s → rest s ≡ rest (s / 2) * 2
rest-off s e l = omega (arith, and_step s (s - 1), ap (bit_and (s / 2)) halves)
  where
    halves : (s - 1) / 2 ≡ s / 2 - 1
    halves = omega arith

pub rest_below : (s : ℕ) → 0 < s → rest s < s
rest_below s l = omega (arith, and_le_r s (s - 1))

pub trailing-on : (n s : ℕ) → s % 2 ≡ 1 → count_trailing_zeros (suc n) s ≡ 0
unfolding count_trailing_zeros
trailing-on n s e = ap (λ (d : ℕ). under d (count_trailing_zeros n (s / 2))) e

pub trailing-off : (n s : ℕ) → s % 2 ≡ 0 → count_trailing_zeros (suc n) s ≡ suc (count_trailing_zeros n (s / 2))
unfolding count_trailing_zeros
trailing-off n s e = ap (λ (d : ℕ). under d (count_trailing_zeros n (s / 2))) e

pub trailing_below : (n s : ℕ) → 0 < s → s < 2 ^ n → count_trailing_zeros n s < n
trailing_below zero s l h = omega arith
trailing_below (suc n) s l h =
    ⊎_elim (λ e. omega (arith, trailing-off n s e, trailing_below n (s / 2) (omega arith) (half-below n h)))
    (λ e. omega (arith, trailing-on n s e))
    (low_digit s)

trailing-twice : (n s : ℕ) → count_trailing_zeros (suc n) (s * 2) ≡ suc (count_trailing_zeros n s)
trailing-twice n s = trailing-off n (s * 2) (omega arith) ∙ ap (λ (x : ℕ). suc (count_trailing_zeros n x)) half
  where
    half : s * 2 / 2 ≡ s
    half = omega arith

-- every other wire of the mask is above the lowest
pub trailing-rest : (n s : ℕ) → 0 < s → s < 2 ^ n → count_trailing_zeros n s < count_trailing_zeros n (rest s)
trailing-rest zero s l h = omega arith
trailing-rest (suc n) s l h =
    ⊎_elim
    (λ e. omega (arith, trailing-off n s e, among (rest (s / 2)) (rest-off s e l), trailing-rest n (s / 2) (omega arith) (half-below n h)))
    (λ e. omega (arith, trailing-on n s e, among (s / 2) (rest-on s e)))
    (low_digit s)
  where
    among : (t : ℕ) → rest s ≡ t * 2 → count_trailing_zeros (suc n) (rest s) ≡ suc (count_trailing_zeros n t)
    among t e = ap (count_trailing_zeros (suc n)) e ∙ trailing-twice n t

pub ones-rest : (n s : ℕ) → 0 < s → s < 2 ^ n → ones s ≡ suc (ones (rest s))
ones-rest zero s l h = omega arith
ones-rest (suc n) s l h =
    ⊎_elim
    (λ e. ones-off s e ∙ ones-rest n (s / 2) (omega arith) (half-below n h) ∙ ap suc (sym (ap ones (rest-off s e l) ∙ ones-twice (rest (s / 2)))))
    (λ e. ones-on s e ∙ ap suc (sym (ap ones (rest-on s e) ∙ ones-twice (s / 2))))
    (low_digit s)
  where
    ones-off : (s : ℕ) → s % 2 ≡ 0 → ones s ≡ ones (s / 2)
    ones-off s e = omega (arith, ones_step s)

    ones-on : (s : ℕ) → s % 2 ≡ 1 → ones s ≡ suc (ones (s / 2))
    ones-on s e = omega (arith, ones_step s)

    half_twice : (s : ℕ) → s * 2 / 2 ≡ s
    half_twice s = omega arith

    ones-twice : (s : ℕ) → ones (s * 2) ≡ ones s
    ones-twice s = omega (arith, ones_step (s * 2), ap ones (half_twice s))

shown-twice : (n s a : ℕ) → shown (suc n) (s * 2) a ≡ shown n s (a / 2)
shown-twice n s a = shown-off n (s * 2) a (omega arith) ∙ ap (λ (x : ℕ). shown n x (a / 2)) half
  where
    half : s * 2 / 2 ≡ s
    half = omega arith

-- the lowest wire has the lowest digit of the row
pub shown-lowest : (n s a : ℕ) → 0 < s → s < 2 ^ n → shown n s a ≡ shown n (rest s) a * 2 + wire a (count_trailing_zeros n s)
shown-lowest zero s a l h = omega arith
shown-lowest (suc n) s a l h =
    ⊎_elim
    (λ e. shown-off n s a e
    ∙ shown-lowest n (s / 2) (a / 2) (omega arith) (half-below n h)
    ∙ ap₂ (λ (r w : ℕ). r * 2 + w)
    (sym (ap (λ (x : ℕ). shown (suc n) x a) (rest-off s e l) ∙ shown-twice n (rest (s / 2)) a))
    (sym (ap (wire a) (trailing-off n s e) ∙ wire-high a (count_trailing_zeros n (s / 2)))))
    (λ e. shown-on n s a e
    ∙ ap₂ (λ (r w : ℕ). r * 2 + w)
    (sym (ap (λ (x : ℕ). shown (suc n) x a) (rest-on s e) ∙ shown-twice n (s / 2) a))
    (sym (ap (wire a) (trailing-on n s e) ∙ wire-low a)))
    (low_digit s)

placed-twice : (n s row : ℕ) → placed (suc n) (s * 2) row ≡ placed n s row * 2
placed-twice n s row = omega (arith, placed_off n (s * 2) row (omega arith), ap (λ (x : ℕ). placed n x row) half)
  where
    half : s * 2 / 2 ≡ s
    half = omega arith

-- the lowest wire gets the lowest digit of the row, the wires above it the others
pub placed-lowest : (n s row : ℕ) → 0 < s → s < 2 ^ n → placed n s row ≡ placed n (rest s) (row / 2) + row % 2 * 2 ^ count_trailing_zeros n s
placed-lowest zero s row l h = omega arith
placed-lowest (suc n) s row l h =
    ⊎_elim
    (λ e. omega (arith, placed_off n s row e, placed-lowest n (s / 2) row (omega arith) (half-below n h), above (rest (s / 2)) (rest-off s e l), weight-off e))
    (λ e. omega (arith, placed_on n s row e, above (s / 2) (rest-on s e), weight-on e))
    (low_digit s)
  where
    above : (t : ℕ) → rest s ≡ t * 2 → placed (suc n) (rest s) (row / 2) ≡ placed n t (row / 2) * 2
    above t e = ap (λ (x : ℕ). placed (suc n) x (row / 2)) e ∙ placed-twice n t (row / 2)

    weight-off : s % 2 ≡ 0 → row % 2 * 2 ^ count_trailing_zeros (suc n) s ≡ row % 2 * (2 ^ count_trailing_zeros n (s / 2) * 2)
    weight-off e = ap (λ (x : ℕ). row % 2 * x) (ap (λ (k : ℕ). 2 ^ k) (trailing-off n s e) ∙ pow-suc 2 (count_trailing_zeros n (s / 2)))

    weight-on : s % 2 ≡ 1 → row % 2 * 2 ^ count_trailing_zeros (suc n) s ≡ row % 2 * 1
    weight-on e = ap (λ (k : ℕ). row % 2 * 2 ^ k) (trailing-on n s e)
