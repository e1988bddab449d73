-- `answer::read_exactly` meets its contract: the word that was found, and the test, say which case of `exactly` holds. Assumes nothing.
use Rattle.std.proofs.Common.{rules}
use borrow.Author.Tests.{eq-eqb, ne_eqb}
use Rattle.steps.proofs.Steps.{stop, go_on}
use Rattle.answer.specs.AnswerSheet.{exactly, permitted}
use Rattle.answer.proofs.read_exactly.Goals as goal

pub returns-in_err-n : goal.returns-in_err-n
unfolding exactly
returns-in_err-n c = rw (stop _ _ _ _ c.read_word.ensures c.in_err-n.was) (search rules)

pub returns-then-n-count : goal.returns-then-n-count
unfolding exactly permitted
returns-then-n-count c = rw (go_on _ _ _ _ _ c.read_word.ensures c.in_ok-n.was, eq-eqb _ _ c.if-n-count.true)

pub returns-else-n-count : goal.returns-else-n-count
unfolding exactly permitted
returns-else-n-count c = rw (go_on _ _ _ _ _ c.read_word.ensures c.in_ok-n.was, ne_eqb _ _ c.if-n-count.false)
