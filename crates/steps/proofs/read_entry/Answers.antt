-- `steps::read_entry` meets its contract: the byte that was found, and the tests, say which case of `entry` holds. Assumes nothing.
use Rattle.std.proofs.Common.{rules}
use borrow.Author.Tests.{lt-ltb, le-ltb, le-leb, lt-leb}
use Rattle.steps.proofs.Steps.{stop, go_on}
use Rattle.steps.specs.Bytes.{entry, rising}
use Rattle.steps.proofs.read_entry.Goals as goal

pub returns-in_err-e : goal.returns-in_err-e
unfolding entry
returns-in_err-e c = rw (stop _ _ _ _ c.read_byte.ensures c.in_err-e.was) (search rules)

pub returns-then-limit-e : goal.returns-then-limit-e
unfolding entry rising
returns-then-limit-e c = rw (go_on _ _ _ _ _ c.read_byte.ensures c.in_ok-e.was, le-ltb _ _ c.if-limit-e.true)

pub returns-then-e-least : goal.returns-then-e-least
unfolding entry rising
returns-then-e-least c = rw (go_on _ _ _ _ _ c.read_byte.ensures c.in_ok-e.was, lt-ltb _ _ c.if-limit-e.false, lt-leb _ _ c.if-e-least.true)

pub returns-else-e-least : goal.returns-else-e-least
unfolding entry rising
returns-else-e-least c = rw (go_on _ _ _ _ _ c.read_byte.ensures c.in_ok-e.was, lt-ltb _ _ c.if-limit-e.false, le-leb _ _ c.if-e-least.false)
