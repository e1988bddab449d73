-- `ormsvelg::ormsvelg_widen` meets its contract: what the widener answers fits its number. Assumes nothing.
use mathlib.Core.Path.{ap, ◌∙◌}
use Rattle.ormsvelg.specs.Packed.{pack}
use Rattle.ormsvelg.proofs.Packing.{widen-packs}
use Rattle.ormsvelg.proofs.ormsvelg_widen.Goals as goal

pub packed-requires : goal.packed-requires
packed-requires c = rw c.widen.ensures.outcome (widen-packs _ _ _ _ _)

pub returns : goal.returns
returns c = record {
  value = c.packed.ensures ∙ ap pack c.widen.ensures.outcome;
  out_after = c.widen.ensures.exit_is;
}
