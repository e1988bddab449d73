-- `answer::read_bit` meets its contract: the byte that was found, and the test, say which case of `bit` holds. Assumes nothing.
use Rattle.std.proofs.Common.{rules}
use borrow.Author.Tests.{le-leb, lt-leb}
use Rattle.steps.proofs.Steps.{stop, go_on}
use Rattle.answer.specs.AnswerSheet.{bit, is_bit}
use Rattle.answer.proofs.read_bit.Goals as goal

pub returns-in_err-b : goal.returns-in_err-b
unfolding bit
returns-in_err-b c = rw (stop _ _ _ _ c.read_byte.ensures c.in_err-b.was) (search rules)

pub returns-then-b-le1 : goal.returns-then-b-le1
unfolding bit is_bit
returns-then-b-le1 c = rw (go_on _ _ _ _ _ c.read_byte.ensures c.in_ok-b.was, le-leb _ _ c.if-b-le1.true)

pub returns-else-b-le1 : goal.returns-else-b-le1
unfolding bit is_bit
returns-else-b-le1 c = rw (go_on _ _ _ _ _ c.read_byte.ensures c.in_ok-b.was, lt-leb _ _ c.if-b-le1.false)
