-- `cubes::or_blocks` meets its contract, by its invariant. Assumes nothing.
use Prim.Native.Nat.{◌-◌}
use native.Mathlib.Omega.{arith}
use lib.Bits.{and_self, and_le_l}
use Rattle.cubes.proofs.Parts.{and-within}
use Rattle.cubes.proofs.Words.{none_yet, last, next}
use Rattle.cubes.proofs.or_blocks.Goals as goal

pub loop-sub-init : goal.loop-sub-init
loop-sub-init c = (and_self c.args.free, none_yet _ _ _ _ _)

pub returns-then-sub-eq0 : goal.returns-then-sub-eq0
returns-then-sub-eq0 c = let inv = c.loop-sub.invariant in
    last _ _ _ _ _ _ _ _ inv.0 inv.1 c.or_block.ensures c.if-sub-eq0.true

pub loop-sub-smaller : goal.loop-sub-smaller
loop-sub-smaller c = omega (arith, and_le_l (c.loop-sub.sub - 1) c.args.free)

pub loop-sub-preserved : goal.loop-sub-preserved
loop-sub-preserved c = let inv = c.loop-sub.invariant in (
  and-within (c.loop-sub.sub - 1) c.args.free,
  next _ _ _ _ _ _ _ _ inv.0 inv.1 c.or_block.ensures (omega arith),
)
