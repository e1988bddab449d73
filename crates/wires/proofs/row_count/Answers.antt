-- `wires::row_count` meets its contract: a u32 has at most 32 digits set, so the shift loses nothing. Assumes nothing.
use Rattle.std.proofs.Common.{◌^◌, ◌≤◌, ◌∙◌, one-mul, arith, lit<, shl_exact}
use lib.Count.{ones, ones-le}
use Rattle.wires.proofs.row_count.Goals as goal

few : (c : goal.Start) → ones c.args.seen ≤ 32
few c = ones-le 32 c.args.seen c.ranges.seen.fits

pub overflow_cast-result : goal.overflow_cast-result
overflow_cast-result c = omega (arith, few c)

pub overflow_shl-result : goal.overflow_shl-result
overflow_shl-result c = omega (arith, few c)

pub returns : goal.returns
returns c = shl_exact {a = 1} 1 (ones c.args.seen) 64 (lit< tt) (omega (arith, few c)) ∙ one-mul (2 ^ ones c.args.seen)
