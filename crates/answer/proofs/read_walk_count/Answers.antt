-- `answer::read_walk_count` meets its contract: the word that was found, and the tests, say which case of `walk_count` holds. Assumes nothing.
use Rattle.std.proofs.Common.{rules}
use mathlib.Core.Logic.{⊎_elim}
use borrow.Author.Tests.{le-leb, lt-leb}
use Rattle.steps.proofs.Steps.{stop, go_on}
use Rattle.answer.specs.AnswerSheet.{walk_count, permitted}
use Rattle.answer.proofs.read_walk_count.Goals as goal

pub returns-in_err-n : goal.returns-in_err-n
unfolding walk_count
returns-in_err-n c = rw (stop _ _ _ _ c.read_word.ensures c.in_err-n.was) (search rules)

pub returns-then-n-le-WALK_LIMIT : goal.returns-then-n-le-WALK_LIMIT
unfolding walk_count permitted
returns-then-n-le-WALK_LIMIT c =
    rw (go_on _ _ _ _ _ c.read_word.ensures c.in_ok-n.was, le-leb _ _ c.if-n-ge1.true, le-leb _ _ c.if-n-le-WALK_LIMIT.true)

pub returns-else-n-ge1 : goal.returns-else-n-ge1
unfolding walk_count permitted
returns-else-n-ge1 c =
    rw (go_on _ _ _ _ _ c.read_word.ensures c.in_ok-n.was)
    (⊎_elim (λ is. rw (le-leb 1 c.in_ok-n.n is.0, lt-leb c.in_ok-n.n 2046 is.1)) (λ is. rw (lt-leb 1 c.in_ok-n.n is)) c.else-n-ge1.either)
