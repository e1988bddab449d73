-- `cubes::or_blocks` meets its contract. The loop's invariant: the blocks at the parts of `free` above `sub` are done, and no others. The measure is `sub`.
-- Assumes nothing.
use Prim.Native.Nat.{◌+◌}
use Rattle.cubes.specs.Cubes.{Part, Ored}
use Rattle.cubes.proofs.or_blocks.Given as goal

abbrev pub invariant-loop-sub : goal.invariant-loop-sub
invariant-loop-sub l = Part l.sub l.free × Ored l.base l.free l.pattern l.rows (l.sub + 1) l.initial.words l.words

abbrev pub decreases-loop-sub : goal.decreases-loop-sub
decreases-loop-sub l = l.sub
