-- `text::write_first_three` meets its contract: three texts, one after the other. Assumes nothing.
use mathlib.Core.List.{◌∷◌}
use Rattle.text.specs.Decimal.{decimal}
use Rattle.answer.proofs.Pieces.{both, three}
use Rattle.text.proofs.write_first_three.Goals as goal

pub write_after-requires : goal.write_after-requires
write_after-requires c = (three _ _ (32 ∷ decimal c.args.o.place) c.requires).second c.write_decimal.ensures

pub write_after-requires-2 : goal.write_after-requires-2
write_after-requires-2 c = (three _ _ _ c.requires).third c.write_decimal.ensures c.write_after.ensures

pub returns : goal.returns
returns c = both (both c.write_decimal.ensures c.write_after.ensures) c.write_after-2.ensures
