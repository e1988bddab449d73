-- `wires::row_placed` meets its contract, by its invariant. Assumes nothing.
use Rattle.std.proofs.Common.{◌≡◌, ℕ, ◌+◌, ◌*◌, ◌/◌, ◌%◌, ◌^◌, ◌<◌, ◌≤◌, ap, ◌∙◌, pow-suc, arith, pow_pos, pow_mono, shl_exact}
use lib.Arith.{digits_lt}
use lib.Bits.{bit_or, or_shifted_r}
use lib.Count.{count_trailing_zeros}
use Rattle.wires.specs.Wires.{placed}
use Rattle.wires.proofs.Rows.{placed-none, placed-any}
use Rattle.wires.proofs.Lowest.{rest, rest_below, trailing_below, trailing-rest, placed-lowest}
use Rattle.wires.proofs.row_placed.Invariants.{Inv}
use Rattle.wires.proofs.row_placed.Goals as goal

-- ---- a turn, as plain arithmetic
module _ (seen row left digits a : ℕ) (inv : Inv seen row left digits a) (some : 0 < left) where
  abbrev lowest : ℕ
  lowest = count_trailing_zeros 32 left

  held : lowest < 32
  held = trailing_below 32 left some inv.small

  digit : digits % 2 < 2
  digit = omega arith

  or_is : bit_or a (digits % 2 * 2 ^ lowest % 2 ^ 32) ≡ digits % 2 * 2 ^ lowest + a
  or_is = ap (bit_or a) (shl_exact 1 lowest 32 digit (omega (arith, held))) ∙ or_shifted_r (digits % 2) lowest a inv.below

  -- the next lowest wire is above
  room : 2 * 2 ^ lowest ≤ 2 ^ count_trailing_zeros 32 (rest left)
  room = omega (arith, pow-suc 2 lowest, pow_mono (trailing-rest 32 left some inv.small))

  turn : Inv seen row (rest left) (digits / 2) (bit_or a (digits % 2 * 2 ^ lowest % 2 ^ 32))
  turn = record {
    small = omega (arith, rest_below left some);
    below = omega (arith, or_is, room, digits_lt digit inv.below);
    whole = omega (arith, or_is, placed-lowest 32 left digits some inv.small);
  }

-- what a turn knows, at its place in the code
module _ (c : goal.In-loop-left) where
  some_left : 0 < c.loop-left.left
  some_left = omega arith

pub loop-left-init : goal.loop-left-init
loop-left-init c = record {
  small = c.ranges.seen.fits;
  below = pow_pos _;
  whole = omega arith;
}

pub overflow_shl-a : goal.overflow_shl-a
overflow_shl-a c = trailing_below 32 c.loop-left.left (some_left c) c.loop-left.invariant.small

pub overflow_sub-left : goal.overflow_sub-left
overflow_sub-left c = some_left c

pub loop-left-smaller : goal.loop-left-smaller
loop-left-smaller c = rest_below c.loop-left.left (some_left c)

pub loop-left-preserved : goal.loop-left-preserved
loop-left-preserved c = turn _ _ _ _ _ c.loop-left.invariant (some_left c)

pub returns : goal.returns
returns c = λ n h. done ∙ placed-any n 32 _ _ h c.ranges.seen.fits
  where
    none : c.loop-left.left ≡ 0
    none = omega arith

    nothing : placed 32 c.loop-left.left c.loop-left.rest ≡ 0
    nothing = ap (λ (s : ℕ). placed 32 s c.loop-left.rest) none ∙ placed-none 32 c.loop-left.rest

    done : c.loop-left.a ≡ placed 32 c.args.seen c.args.row
    done = omega (arith, nothing)
