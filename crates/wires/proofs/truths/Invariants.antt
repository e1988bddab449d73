-- `wires::truths` meets its contract. The loop's invariant: the set tells the variables below v, two digits for each. Assumes nothing.
use Rattle.wires.proofs.Terms.{Tells}
use Rattle.wires.proofs.truths.Given as goal

abbrev pub invariant-loop-v : goal.invariant-loop-v
invariant-loop-v l = Tells l.values l.set l.v
