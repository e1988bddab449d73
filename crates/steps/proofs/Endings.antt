-- Endings of which a test picks one.
--     pick-has     what both outcomes have, the one picked has
-- Assumes nothing.
use mathlib.Core.Bool.{Bool, true, false}
use Rattle.steps.specs.declared.Outcome.{Outcome}
use Rattle.steps.specs.Step.{pick}
use Rattle.steps.specs.Outcome.{Ending}

pub pick-has : (C : Outcome → Type 0) (b : Bool) (e f : Ending) → C e.outcome → C f.outcome → C (pick b e f).outcome
pick-has C true e f p q = p
pick-has C false e f p q = q
