-- `text::print_refused` meets its contract: three texts make the line. Assumes nothing.
use mathlib.Core.List.{[], ◌∷◌}
use Rattle.std.proofs.Common.{arith, refl}
use Rattle.text.specs.Text.{head_refused, refused_text}
use Rattle.text.specs.Numbers.{first_three}
use Rattle.answer.proofs.Pieces.{both, three}
use Rattle.text.proofs.Numbered.{refused-short}
use Rattle.text.proofs.Tables.{printed}
use Rattle.text.proofs.print_refused.Goals as goal

pub write_first_three-requires : goal.write_first_three-requires
write_first_three-requires c = (three head_refused (first_three c.args.o) (10 ∷ []) (omega (arith, refused-short c.args.o (omega arith) (omega arith) (omega arith), c.requires))).second c.write.ensures

pub write-requires-2 : goal.write-requires-2
write-requires-2 c = (three head_refused (first_three c.args.o) (10 ∷ []) (omega (arith, refused-short c.args.o (omega arith) (omega arith) (omega arith), c.requires))).third c.write.ensures c.write_first_three.ensures

pub returns : goal.returns
returns c =
    let all = both (both c.write.ensures c.write_first_three.ensures) c.write-2.ensures in
    printed (refused_text c.args.o) refl (omega (arith, refused-short c.args.o (omega arith) (omega arith) (omega arith), c.requires)) all (grind (arith, all.same))
