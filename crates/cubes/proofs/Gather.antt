-- The even digits of a number, close together: at each step those that the mask m keeps of z are moved down by k where the next mask asks. Assumes nothing.
use mathlib.Core.Path.{◌≡◌, ap, ◌∙◌}
use mathlib.Core.Bool.{Bool}
use mathlib.Core.Logic.{⊎_elim}
use Prim.Native.Nat.{ℕ, ◌+◌, ◌-◌, ◌*◌, ◌/◌, ◌%◌, ◌^◌, ◌<◌, ◌≤◌, min, max}
use native.Mathlib.Omega.{arith}
use lib.Bits.{bit_and, bit_or, and_le_r}
use lib.Dec.{T, eqb, eqb→eq}
use lib.Pow.{shr-shr}
use Rattle.wires.specs.Wires.{wire}
use Rattle.wires.proofs.Digits.{low_digit, wire-lt, wire-and, wire-or}
use Rattle.cubes.specs.Cubes.{Evens}
use Rattle.cubes.proofs.Tests.{both, both_left, both_right, at}

abbrev pub step : ℕ → ℕ → ℕ → ℕ
step k m z = bit_and (bit_or z (z / 2 ^ k)) m

wire-step : (k m z p : ℕ) → wire (step k m z) p ≡ min (max (wire z p) (wire z (k + p))) (wire m p)
wire-step k m z p =
    wire-and (bit_or z (z / 2 ^ k)) m p
    ∙ ap (λ (x : ℕ). min x (wire m p)) (wire-or z (z / 2 ^ k) p ∙ ap (max (wire z p)) (ap (λ (x : ℕ). x % 2) (shr-shr z k p)))

-- where the digit p of a step comes from, if z has no digits but those of the mask m
abbrev from : ℕ → ℕ → ℕ → ℕ
from k m p = p + k * (1 - wire m p)

-- the next mask has p, and the mask has just one of p and k + p
abbrev sound : ℕ → ℕ → ℕ → ℕ → Bool
sound k m next p = both (eqb (wire next p) 1) (eqb (wire m p + wire m (k + p)) 1)

Within : ℕ → ℕ → Type 0
Within z m = (p : ℕ) → wire z p ≤ wire m p

and_in : (z m : ℕ) → Within (bit_and z m) m
unfolding Within
and_in z m p = omega (arith, wire-and z m p)

moved : (k m next z p : ℕ) → Within z m → T (sound k m next p) → wire (step k next z) p ≡ wire z (from k m p)
unfolding Within
moved k m next z p h t =
    ⊎_elim
    (λ e. wire-step k next z p ∙ omega (arith, on, one, h p, wire-lt z (k + p), ap (wire z) (off-is e)))
    (λ e. wire-step k next z p ∙ omega (arith, on, one, h (k + p), wire-lt z p, ap (wire z) (on-is e)))
    (low_digit (m / 2 ^ p))
  where
    on : wire next p ≡ 1
    on = eqb→eq (wire next p) 1 (both_left (eqb (wire next p) 1) (eqb (wire m p + wire m (k + p)) 1) t)

    one : wire m p + wire m (k + p) ≡ 1
    one = eqb→eq (wire m p + wire m (k + p)) 1 (both_right (eqb (wire next p) 1) (eqb (wire m p + wire m (k + p)) 1) t)

    off-is : wire m p ≡ 0 → from k m p ≡ k + p
    off-is e = ap (λ (d : ℕ). p + k * (1 - d)) e ∙ omega arith

    on-is : wire m p ≡ 1 → from k m p ≡ p
    on-is e = ap (λ (d : ℕ). p + k * (1 - d)) e ∙ omega arith

-- ---- the four steps

abbrev from₈ : ℕ → ℕ
from₈ p = from 8 0x00ff00ff p

abbrev from₄ : ℕ → ℕ
from₄ p = from 4 0x0f0f0f0f (from₈ p)

abbrev from₂ : ℕ → ℕ
from₂ p = from 2 0x33333333 (from₄ p)

abbrev from₁ : ℕ → ℕ
from₁ p = from 1 0x55555555 (from₂ p)

abbrev first : ℕ → ℕ
first x = bit_and x 0x55555555

abbrev pub gathered : ℕ → ℕ
gathered x = step 8 0x0000ffff (step 4 0x00ff00ff (step 2 0x0f0f0f0f (step 1 0x33333333 (first x))))

-- where a digit of them all comes from
source : (p : ℕ) → p < 16 → (wire 0x55555555 (from₁ p) ≡ 1) × (from₁ p ≡ 2 * p)
source p l = (
  eqb→eq (wire 0x55555555 (from₁ p)) 1 (at 16 (λ k. eqb (wire 0x55555555 (from₁ k)) 1) tt p l),
  eqb→eq (from₁ p) (2 * p) (at 16 (λ k. eqb (from₁ k) (2 * k)) tt p l),
)

each : (x p : ℕ) → p < 16 → wire (gathered x) p ≡ wire x (2 * p)
each x p l =
    moved 8 0x00ff00ff 0x0000ffff (step 4 0x00ff00ff (step 2 0x0f0f0f0f (step 1 0x33333333 (first x)))) p
    (and_in (bit_or (step 2 0x0f0f0f0f (step 1 0x33333333 (first x))) (step 2 0x0f0f0f0f (step 1 0x33333333 (first x)) / 2 ^ 4)) 0x00ff00ff)
    (at 16 (λ k. sound 8 0x00ff00ff 0x0000ffff k) tt p l)
    ∙ moved 4 0x0f0f0f0f 0x00ff00ff (step 2 0x0f0f0f0f (step 1 0x33333333 (first x))) (from₈ p)
    (and_in (bit_or (step 1 0x33333333 (first x)) (step 1 0x33333333 (first x) / 2 ^ 2)) 0x0f0f0f0f)
    (at 16 (λ k. sound 4 0x0f0f0f0f 0x00ff00ff (from₈ k)) tt p l)
    ∙ moved 2 0x33333333 0x0f0f0f0f (step 1 0x33333333 (first x)) (from₄ p)
    (and_in (bit_or (first x) (first x / 2 ^ 1)) 0x33333333)
    (at 16 (λ k. sound 2 0x33333333 0x0f0f0f0f (from₄ k)) tt p l)
    ∙ moved 1 0x55555555 0x33333333 (first x) (from₂ p) (and_in x 0x55555555)
    (at 16 (λ k. sound 1 0x55555555 0x33333333 (from₂ k)) tt p l)
    ∙ wire-and x 0x55555555 (from₁ p)
    ∙ omega (arith, (source p l).0, wire-lt x (from₁ p), ap (wire x) (source p l).1)

pub gathered-is : (x : ℕ) → Evens x (gathered x)
gathered-is x = record {
  each = each x;
  small = omega (arith, and_le_r (bit_or eight (eight / 2 ^ 8)) 0x0000ffff);
}
  where
    eight : ℕ
    eight = step 4 0x00ff00ff (step 2 0x0f0f0f0f (step 1 0x33333333 (first x)))
