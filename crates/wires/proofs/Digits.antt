-- The digits of a number, one at a time: what the proofs on masks use. Assumes nothing.
use Rattle.std.proofs.Common.{◌≡◌, ℕ, zero, suc, ◌+◌, ◌-◌, ◌*◌, ◌/◌, ◌%◌, ◌^◌, ◌<◌, ◌≤◌, min, max, ◌⊎◌, sym, ap, ◌∙◌, inl, inr, ⊎_elim, lt_of_lt_of_le, le_of_suc-le-suc, not-suc-le-zero, eq-or-lt_of_le, div-one, one-add, arith, pow_mono, shr-shr}
use native.Mathlib.Nat.{zero-div, div-eq_of_lt}
use lib.Arith.{bin_ind}
use lib.Pow.{high}
use lib.Bits.{bit_and, bit_or, and_step, or_step, and_shr, or_shr, block_half, block_odd}
use Rattle.wires.specs.Wires.{wire}

pub low_digit : (n : ℕ) → (n % 2 ≡ 0) ⊎ (n % 2 ≡ 1)
low_digit n = ⊎_elim (λ e. inr (omega arith)) (λ l. inl (omega arith)) (eq-or-lt_of_le le)
  where
    le : n % 2 ≤ 1
    le = omega arith

pub wire-low : (a : ℕ) → wire a 0 ≡ a % 2
wire-low a = ap (λ (x : ℕ). x % 2) (div-one a)

pub wire-high : (a p : ℕ) → wire a (suc p) ≡ wire (a / 2) p
wire-high a p = ap (λ (x : ℕ). x % 2) (ap (λ (k : ℕ). a / 2 ^ k) (sym (one-add p)) ∙ sym (shr-shr a 1 p))

pub wire-lt : (a p : ℕ) → wire a p < 2
wire-lt a p = omega arith

pub wire-and : (a b p : ℕ) → wire (bit_and a b) p ≡ min (wire a p) (wire b p)
wire-and a b p =
    ap (λ (x : ℕ). x % 2) (and_shr a b p)
    ∙ omega (arith, and_step (a / 2 ^ p) (b / 2 ^ p))

pub wire-or : (a b p : ℕ) → wire (bit_or a b) p ≡ max (wire a p) (wire b p)
wire-or a b p =
    ap (λ (x : ℕ). x % 2) (or_shr a b p)
    ∙ omega (arith, or_step (a / 2 ^ p) (b / 2 ^ p))

pub half-below : (n : ℕ) {a : ℕ} → a < 2 ^ suc n → a / 2 < 2 ^ n
half-below n {a} h = omega arith

pub twice-below : (n : ℕ) {a : ℕ} → a / 2 < 2 ^ n → a < 2 ^ suc n
twice-below n {a} h = omega arith

-- ---- a number of k low digits, and another above it

pub wire-below : (hi k lo p : ℕ) → p < k → wire (hi * 2 ^ k + lo) p ≡ wire lo p
wire-below hi zero lo p l = absurd (not-suc-le-zero l)
wire-below hi (suc k) lo zero l = wire-low (hi * 2 ^ suc k + lo) ∙ block_odd hi k lo ∙ sym (wire-low lo)
wire-below hi (suc k) lo (suc p) l =
    wire-high (hi * 2 ^ suc k + lo) p
    ∙ ap (λ (x : ℕ). wire x p) (block_half hi k lo)
    ∙ wire-below hi k (lo / 2) p (le_of_suc-le-suc l)
    ∙ sym (wire-high lo p)

pub wire-above : (hi k lo p : ℕ) → lo < 2 ^ k → wire (hi * 2 ^ k + lo) (k + p) ≡ wire hi p
wire-above hi k lo p h = ap (λ (x : ℕ). x % 2) (sym (shr-shr (hi * 2 ^ k + lo) k p) ∙ ap (λ (x : ℕ). x / 2 ^ p) (high hi k h))

-- ---- a number that is not 0 has a digit that is set

pub wire-zero : (p : ℕ) → wire 0 p ≡ 0
wire-zero p = ap (λ (x : ℕ). x % 2) (zero-div (2 ^ p))

-- nothing stands above a number's digits
pub wire-none : (n : ℕ) {a : ℕ} (p : ℕ) → a < 2 ^ n → n ≤ p → wire a p ≡ 0
wire-none n p h l = ap (λ (x : ℕ). x % 2) (div-eq_of_lt (lt_of_lt_of_le h (pow_mono l)))

pub some-wire : (n : ℕ) → 0 < n → (p : ℕ) × (wire n p ≡ 1)
some-wire =
    bin_ind (λ (n : ℕ). 0 < n → (p : ℕ) × (wire n p ≡ 1)) (λ l. absurd (not-suc-le-zero l))
    (λ n ih l.
    ⊎_elim (λ e. let r = ih (omega arith) in (suc r.0, wire-high n r.0 ∙ r.1)) (λ e. (zero, wire-low n ∙ e)) (low_digit n))

-- ---- the digits that are not set, of a number of n digits

not-half : (n a : ℕ) → a < 2 ^ suc n → (2 ^ suc n - 1 - a) / 2 ≡ 2 ^ n - 1 - a / 2
not-half n a h = omega arith

pub wire-not : (n a p : ℕ) → a < 2 ^ n → p < n → wire (2 ^ n - 1 - a) p ≡ 1 - wire a p
wire-not zero a p h l = absurd (not-suc-le-zero l)
wire-not (suc n) a zero h l = wire-low (2 ^ suc n - 1 - a) ∙ low ∙ ap (λ (x : ℕ). 1 - x) (sym (wire-low a))
  where
    low : (2 ^ suc n - 1 - a) % 2 ≡ 1 - a % 2
    low = omega arith
wire-not (suc n) a (suc p) h l =
    wire-high (2 ^ suc n - 1 - a) p ∙ ap (λ (x : ℕ). wire x p) (not-half n a h) ∙ wire-not n (a / 2) p (half-below n h) (le_of_suc-le-suc l)
    ∙ ap (λ (x : ℕ). 1 - x) (sym (wire-high a p))
