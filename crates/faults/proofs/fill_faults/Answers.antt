-- `faults::fill_faults` meets its contract, by its invariant. Assumes nothing.
use mathlib.Core.Path.{refl}
use native.Mathlib.Omega.{arith}
use Rattle.faults.proofs.Boards.{none-marked, one_more, all-marked}
use Rattle.faults.proofs.fill_faults.Goals as goal

pub loop-rule-init : goal.loop-rule-init
loop-rule-init c = none-marked _ _ _ _ _ refl c.words_used-end.ensures.value c.clear.ensures

pub loop-rule-preserved : goal.loop-rule-preserved
loop-rule-preserved c = one_more _ _ _ _ _ c.loop-rule.invariant c.fill_rule.ensures

pub returns : goal.returns
returns c = all-marked _ _ _ _ (omega arith) c.loop-rule.invariant
