-- `text::write_line` meets its contract: three texts, one after the other. Assumes nothing.
use mathlib.Core.List.{[], ◌∷◌}
use Rattle.answer.proofs.Pieces.{both, three}
use Rattle.text.proofs.write_line.Goals as goal

pub write_after-requires : goal.write_after-requires
write_after-requires c = (three _ _ (10 ∷ []) c.requires).second c.write_decimal.ensures

pub write-requires : goal.write-requires
write-requires c = (three _ _ _ c.requires).third c.write_decimal.ensures c.write_after.ensures

pub returns : goal.returns
returns c = both (both c.write_decimal.ensures c.write_after.ensures) c.write.ensures
