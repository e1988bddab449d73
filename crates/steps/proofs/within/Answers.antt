-- `steps::within` meets its contract. Assumes nothing.
use Rattle.std.proofs.Common.{rules}
use borrow.Author.Tests.{le-leb, lt-leb}
use Rattle.steps.specs.Found.{within_of}
use Rattle.steps.proofs.within.Goals as goal

pub returns-in_err-n : goal.returns-in_err-n
unfolding within_of
returns-in_err-n c = search rules

pub returns-then-n-most : goal.returns-then-n-most
unfolding within_of
returns-then-n-most c = rw (c.in_ok-n.was, le-leb _ _ c.if-n-most.true)

pub returns-else-n-most : goal.returns-else-n-most
unfolding within_of
returns-else-n-most c = rw (c.in_ok-n.was, lt-leb _ _ c.if-n-most.false)
