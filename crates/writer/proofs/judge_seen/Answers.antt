-- `writer::judge_seen` meets its contract: the wires not below the limit come last. Assumes nothing.
use native.Mathlib.Omega.{arith}
use Rattle.sheet.specs.JobSheet.{seen_limit}
use Rattle.writer.proofs.Judging.{set-fine, set-high}
use Rattle.writer.proofs.judge_seen.Goals as goal

pub returns-then-high-ne0 : goal.returns-then-high-ne0
returns-then-high-ne0 c = set-high seen_limit _ _ _ (λ i. i) _ _ c.size-many.ensures.value c.in_ok-within.ensures.value c.ranges.seen.fits _ c.size.ensures.value (omega arith)

pub returns-else-high-ne0 : goal.returns-else-high-ne0
returns-else-high-ne0 c = set-fine seen_limit _ _ _ (λ i. i) _ _ c.size-many.ensures.value c.in_ok-within.ensures.value c.ranges.seen.fits (omega arith)
