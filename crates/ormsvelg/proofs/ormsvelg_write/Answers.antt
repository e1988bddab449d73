-- `ormsvelg::ormsvelg_write` meets its contract: what the writer answers fits its number. Assumes nothing.
use mathlib.Core.Path.{ap, ◌∙◌}
use Rattle.ormsvelg.specs.Packed.{pack}
use Rattle.ormsvelg.proofs.Packing.{write-packs}
use Rattle.ormsvelg.proofs.ormsvelg_write.Goals as goal

pub packed-requires : goal.packed-requires
packed-requires c = rw c.write_job.ensures.value (write-packs _ _)

pub returns : goal.returns
returns c = record {
  value = c.packed.ensures ∙ ap pack c.write_job.ensures.value;
  sheet_after = c.write_job.ensures.sheet_after;
}
