-- `board::Job::step_holds` meets its contract: its test is the definition's, by the rows that the two calls told. Assumes nothing.
use Rattle.std.proofs.Common.{arith}
use Rattle.std.proofs.lemmas.Grind.{common_steps}
use Rattle.board.specs.Tests.{stepb, from_a_b, from_b_b}
use Rattle.board.proofs.Tested.{tested-broken}
use Rattle.board.proofs.Job.step_holds.Goals as goal

pub returns-then-is_some : goal.returns-then-is_some
unfolding stepb from_a_b from_b_b
returns-then-is_some c = grind (arith, common_steps, tested-broken, c.row_shown-of_a.ensures.row, c.row_shown.ensures.row)

pub returns-then-to-of_a : goal.returns-then-to-of_a
unfolding stepb from_a_b from_b_b
returns-then-to-of_a c = grind (arith, common_steps, tested-broken, c.row_shown-of_a.ensures.row, c.row_shown.ensures.row)

pub returns-else-to-of_a : goal.returns-else-to-of_a
unfolding stepb from_a_b from_b_b
returns-else-to-of_a c = grind (arith, common_steps, tested-broken, c.row_shown-of_a.ensures.row, c.row_shown.ensures.row)
