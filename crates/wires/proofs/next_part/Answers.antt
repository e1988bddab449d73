-- `wires::next_part` meets its contract, by the law `next-is`. Assumes nothing.
use Rattle.std.proofs.Common.{◌≡◌, ℕ, ◌+◌, ◌-◌, ◌%◌, ◌^◌, ap, arith}
use lib.Bits.{bit_and}
use Rattle.wires.proofs.Parts.{next-is}
use Rattle.wires.proofs.next_part.Goals as goal

pub returns : goal.returns
returns c = record {
  next = λ n k hn h e. next-is n _ _ _ k hn h e c.wrapping_sub_u32.ensures.value;
  left = ap (λ (x : ℕ). bit_and x c.args.unseen) difference;
}
  where
    difference : c.wrapping_sub_u32.result ≡ (c.args.part + 2 ^ 32 - c.args.unseen) % 2 ^ 32
    difference = omega (arith, c.wrapping_sub_u32.ensures.value, c.wrapping_sub_u32.type_inv, c.ranges.unseen.fits, c.ranges.part.fits)
