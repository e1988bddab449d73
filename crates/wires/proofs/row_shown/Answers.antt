-- `wires::row_shown` meets its contract, by its invariant. Assumes nothing.
use Rattle.std.proofs.Common.{◌≡◌, ℕ, ◌+◌, ◌*◌, ◌/◌, ◌%◌, ◌^◌, ◌<◌, ◌≤◌, ap, ◌∙◌, pow-suc, add-one, arith, shl_exact}
use mathlib.Core.Path.{subst⁻¹}
use lib.Arith.{digits_lt}
use lib.Bits.{bit_and, bit_or, and_mask, or_shifted_r}
use lib.Count.{ones, ones-le, count_trailing_zeros}
use Rattle.wires.specs.Wires.{wire, shown}
use Rattle.wires.proofs.Digits.{wire-lt}
use Rattle.wires.proofs.Rows.{row_below, shown-none, shown-any}
use Rattle.wires.proofs.Lowest.{rest, rest_below, trailing_below, ones-rest, shown-lowest}
use Rattle.wires.proofs.row_shown.Invariants.{Inv}
use Rattle.wires.proofs.row_shown.Goals as goal

-- ---- a turn, as plain arithmetic
module _ (seen a left row at : ℕ) (hs : seen < 2 ^ 32) (inv : Inv seen a left row at) (some : 0 < left) where
  few : at + 1 ≤ 32
  few = omega (arith, ones-le 32 seen hs, ones-rest 32 left some inv.small)

  abbrev digit : ℕ
  digit = bit_and (a / 2 ^ count_trailing_zeros 32 left) 1 * 2 ^ at % 2 ^ 32

  digit-is : digit ≡ wire a (count_trailing_zeros 32 left) * 2 ^ at
  digit-is =
      ap (λ (x : ℕ). x * 2 ^ at % 2 ^ 32) (and_mask (a / 2 ^ count_trailing_zeros 32 left) 1)
      ∙ shl_exact 1 at 32 (wire-lt a (count_trailing_zeros 32 left)) (omega (arith, few))

  or_is : bit_or row digit ≡ wire a (count_trailing_zeros 32 left) * 2 ^ at + row
  or_is = ap (bit_or row) digit-is ∙ or_shifted_r (wire a (count_trailing_zeros 32 left)) at row inv.digits

  power : 2 ^ (at + 1) ≡ 2 ^ at * 2
  power = ap (λ (k : ℕ). 2 ^ k) (add-one at) ∙ pow-suc 2 at

  turn : Inv seen a (rest left) (bit_or row digit) (at + 1)
  turn = record {
    small = omega (arith, rest_below left some);
    digits = omega (arith, or_is, power, digits_lt (wire-lt a (count_trailing_zeros 32 left)) inv.digits);
    count = omega (arith, ones-rest 32 left some inv.small);
    rows = inv.rows ∙ above;
  }
    where
      above : row + shown 32 left a * 2 ^ at ≡ bit_or row digit + shown 32 (rest left) a * 2 ^ (at + 1)
      above =
          ap (λ (x : ℕ). row + x * 2 ^ at) (shown-lowest 32 left a some inv.small)
          ∙ omega (arith, or_is, ap (λ (x : ℕ). shown 32 (rest left) a * x) power)

-- what a turn knows, at its place in the code
module _ (c : goal.In-loop-left) where
  some_left : 0 < c.loop-left.left
  some_left = omega arith

  few-here : c.loop-left.at + 1 ≤ 32
  few-here = few _ _ _ _ _ c.ranges.seen.fits c.loop-left.invariant some_left

pub loop-left-init : goal.loop-left-init
loop-left-init c = record {
  small = c.ranges.seen.fits;
  digits = omega arith;
  count = omega arith;
  rows = omega arith;
}

pub overflow_shr-row : goal.overflow_shr-row
overflow_shr-row c = trailing_below 32 c.loop-left.left (some_left c) c.loop-left.invariant.small

pub overflow_shl-row : goal.overflow_shl-row
overflow_shl-row c = omega (arith, few-here c)

pub overflow_add-at : goal.overflow_add-at
overflow_add-at c = omega (arith, few-here c)

pub overflow_sub-left : goal.overflow_sub-left
overflow_sub-left c = some_left c

pub loop-left-smaller : goal.loop-left-smaller
loop-left-smaller c = rest_below c.loop-left.left (some_left c)

pub loop-left-preserved : goal.loop-left-preserved
loop-left-preserved c = turn _ _ _ _ _ c.ranges.seen.fits c.loop-left.invariant (some_left c)

pub returns : goal.returns
returns c = record {
  row = λ n h. done ∙ shown-any n 32 _ _ h c.ranges.seen.fits;
  below = subst⁻¹ (λ (r : ℕ). r < 2 ^ ones c.args.seen) done (row_below 32 _ c.args.a);
}
  where
    none : c.loop-left.left ≡ 0
    none = omega arith

    nothing : shown 32 c.loop-left.left c.args.a ≡ 0
    nothing = ap (λ (s : ℕ). shown 32 s c.args.a) none ∙ shown-none 32 c.args.a

    done : c.loop-left.row ≡ shown 32 c.args.seen c.args.a
    done = omega (arith, ap (λ (x : ℕ). x * 2 ^ c.loop-left.at) nothing)
