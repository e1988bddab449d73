-- `ormsvelg::ormsvelg_to_one` meets its contract: what the mover answers fits its number. Assumes nothing.
use mathlib.Core.Path.{ap, ◌∙◌}
use Rattle.ormsvelg.specs.Packed.{pack}
use Rattle.ormsvelg.proofs.Packing.{move-packs}
use Rattle.ormsvelg.proofs.ormsvelg_to_one.Goals as goal

pub packed-requires : goal.packed-requires
packed-requires c = rw c.to_one.ensures.outcome (move-packs _ _ _)

pub returns : goal.returns
returns c = record {
  value = c.packed.ensures ∙ ap pack c.to_one.ensures.outcome;
  moved_after = c.to_one.ensures.exit_is;
}
