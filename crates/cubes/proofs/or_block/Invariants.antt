-- `cubes::or_block` meets its contract. The loop's invariant: the words passed have the pattern added. Assumes nothing.
use Rattle.cubes.specs.Cubes.{Added}
use Rattle.cubes.proofs.or_block.Given as goal

abbrev pub invariant-loop-j : goal.invariant-loop-j
invariant-loop-j l = Added l.w l.pattern l.rows l.j l.initial.words l.words
