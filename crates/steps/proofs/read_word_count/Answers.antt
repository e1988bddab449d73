-- `steps::read_word_count` meets its contract. Assumes nothing.
use mathlib.Core.Path.{ap, ◌∙◌}
use Rattle.steps.specs.Found.{within_of}
use Rattle.steps.proofs.Steps.{counted-word}
use Rattle.steps.proofs.read_word_count.Goals as goal

pub returns : goal.returns
returns c = c.within.ensures ∙ ap (within_of _ _) c.read_word.ensures ∙ counted-word _ _ _
