-- `writer::judge_rule` meets its contract: a term that is not below the limit stands above all that are. Assumes nothing.
use mathlib.Core.Path.{refl}
use native.Mathlib.Omega.{arith}
use Rattle.writer.proofs.Judging.{set-fine, set-high}
use Rattle.writer.proofs.judge_rule.Goals as goal

pub returns-then-rule-terms-ne0 : goal.returns-then-rule-terms-ne0
returns-then-rule-terms-ne0 c = set-high _ _ _ _ (λ i. c.args.number) _ _ c.size.ensures.value c.in_ok-within.ensures.value c.ranges.rule.fits _ refl (omega arith)

pub returns-else-rule-terms-ne0 : goal.returns-else-rule-terms-ne0
returns-else-rule-terms-ne0 c = set-fine _ _ _ _ (λ i. c.args.number) _ _ c.size.ensures.value c.in_ok-within.ensures.value c.ranges.rule.fits (omega arith)
