-- `attempt::merge` meets its contract. The invariant is `Done`: the rows below r are done, and the others are as they were.
-- Assumes nothing.
use Rattle.attempt.proofs.Merging.{Done}
use Rattle.attempt.proofs.merge.Given as goal

abbrev pub invariant-loop-r : goal.invariant-loop-r
invariant-loop-r l = Done l.reached l.initial.state l.state l.r
