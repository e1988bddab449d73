-- `ormsvelg::ormsvelg_check` meets its contract: what the checker answers fits its number. Assumes nothing.
use mathlib.Core.Path.{ap, ◌∙◌}
use Rattle.ormsvelg.specs.Packed.{pack}
use Rattle.ormsvelg.proofs.Packing.{check-packs}
use Rattle.ormsvelg.proofs.ormsvelg_check.Goals as goal

pub packed-requires : goal.packed-requires
packed-requires c = rw c.check.ensures (check-packs _ _ _)

pub returns : goal.returns
returns c = c.packed.ensures ∙ ap pack c.check.ensures
