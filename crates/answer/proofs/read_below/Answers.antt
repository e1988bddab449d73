-- `answer::read_below` meets its contract: the word that was found, and the test, say which case of `below` holds. Assumes nothing.
use Rattle.std.proofs.Common.{rules}
use borrow.Author.Tests.{lt-ltb, le-ltb}
use Rattle.steps.proofs.Steps.{stop, go_on}
use Rattle.answer.specs.AnswerSheet.{below, is_below}
use Rattle.answer.proofs.read_below.Goals as goal

pub returns-in_err-v : goal.returns-in_err-v
unfolding below
returns-in_err-v c = rw (stop _ _ _ _ c.read_word.ensures c.in_err-v.was) (search rules)

pub returns-then-v-limit : goal.returns-then-v-limit
unfolding below is_below
returns-then-v-limit c = rw (go_on _ _ _ _ _ c.read_word.ensures c.in_ok-v.was, lt-ltb _ _ c.if-v-limit.true)

pub returns-else-v-limit : goal.returns-else-v-limit
unfolding below is_below
returns-else-v-limit c = rw (go_on _ _ _ _ _ c.read_word.ensures c.in_ok-v.was, le-ltb _ _ c.if-v-limit.false)
