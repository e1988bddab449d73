-- `answer::page::store` meets its contract, by its invariant. Assumes nothing.
use Rattle.std.proofs.Common.{rules, sym, ◌∙◌}
use native.Mathlib.Nat.{add-zero}
use lib.ListN.{length-set}
use Rattle.steps.proofs.Runs.{sets-turn, sets-done}
use Rattle.answer.proofs.page.store.Goals as goal

pub loop-i-init : goal.loop-i-init
loop-i-init c = (search rules, simp add-zero)

pub loop-i-preserved : goal.loop-i-preserved
loop-i-preserved c = (simp length-set c.loop-i.invariant.0, c.loop-i.invariant.1 ∙ sets-turn _ _ _ _ c.loop-i-test.true)

pub returns : goal.returns
returns c = sym (c.loop-i.invariant.1 ∙ sets-done _ _ _ _ c.loop-i-test.false)
