-- `answer::read_kind` meets its contract: the word that was found, and the test, say which case of `kind_count` holds. Assumes nothing.
use Rattle.std.proofs.Common.{rules}
use mathlib.Core.Logic.{⊎_elim}
use borrow.Author.Tests.{eq-eqb, ne_eqb}
use Rattle.steps.proofs.Steps.{stop, go_on}
use Rattle.answer.specs.AnswerSheet.{kind_count, permitted}
use Rattle.answer.proofs.read_kind.Goals as goal

pub returns-in_err-n : goal.returns-in_err-n
unfolding kind_count
returns-in_err-n c = rw (stop _ _ _ _ c.read_word.ensures c.in_err-n.was) (search rules)

pub returns-then-n-eq0 : goal.returns-then-n-eq0
unfolding kind_count permitted
returns-then-n-eq0 c =
    rw (go_on _ _ _ _ _ c.read_word.ensures c.in_ok-n.was)
    (⊎_elim (λ is. rw (eq-eqb c.in_ok-n.n c.args.rows_a is)) (λ is. rw (ne_eqb c.in_ok-n.n c.args.rows_a is.0, eq-eqb c.in_ok-n.n 0 is.1)) c.if-n-eq0.either)

pub returns-else-n-eq0 : goal.returns-else-n-eq0
unfolding kind_count permitted
returns-else-n-eq0 c =
    rw (go_on _ _ _ _ _ c.read_word.ensures c.in_ok-n.was, ne_eqb _ _ c.if-n-eq0.false.0, ne_eqb _ _ c.if-n-eq0.false.1)
