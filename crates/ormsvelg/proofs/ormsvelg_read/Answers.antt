-- `ormsvelg::ormsvelg_read` meets its contract: what the reader answers fits its number. Assumes nothing.
use mathlib.Core.Path.{ap, ◌∙◌}
use Rattle.ormsvelg.specs.Packed.{pack}
use Rattle.ormsvelg.proofs.Packing.{read-packs}
use Rattle.ormsvelg.proofs.ormsvelg_read.Goals as goal

pub packed-requires : goal.packed-requires
packed-requires c = rw c.read_sheet.ensures (read-packs _ _)

pub returns : goal.returns
returns c = c.packed.ensures ∙ ap pack c.read_sheet.ensures
