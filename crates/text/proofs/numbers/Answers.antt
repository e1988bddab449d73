-- `text::numbers` meets its contract: no room, or four texts that make the line. Assumes nothing.
use mathlib.Core.List.{[], ◌∷◌, ◌++◌}
use Rattle.std.proofs.Common.{arith, refl}
use Rattle.steps.specs.declared.Outcome.{Outcome}
use Rattle.answer.specs.declared.page.Page.{Page}
use Rattle.answer.specs.Page.{Room}
use Rattle.text.specs.Decimal.{decimal}
use Rattle.text.specs.Numbers.{first_three, numbers_text}
use Rattle.text.proofs.Numbered.{numbers-short, numbered-no-room, numbered-wrote}
use Rattle.answer.proofs.Pieces.{Three, both, three, first_room, next_room}
use Rattle.text.proofs.numbers.Goals as goal

-- the line before its line feed, in three pieces
pieces : {p : Page} (o : Outcome) → Room p (numbers_text o) → Three p (first_three o) (32 ∷ decimal o.written) (32 ∷ decimal o.rule)
pieces {p} o fits = three (first_three o) (32 ∷ decimal o.written) (32 ∷ decimal o.rule) (first_room p (first_three o ++ (32 ∷ decimal o.written) ++ (32 ∷ decimal o.rule)) (10 ∷ []) fits)

pub returns-then-out-lt-LONGEST_NUMBERS : goal.returns-then-out-lt-LONGEST_NUMBERS
returns-then-out-lt-LONGEST_NUMBERS c = numbered-no-room _ _ c.if-out-lt-LONGEST_NUMBERS.true c.refused.ensures

pub write_first_three-requires : goal.write_first_three-requires
write_first_three-requires c = (pieces {p = record { bytes = c.args.out; at = 0 }} c.args.o (omega (arith, numbers-short c.args.o (omega arith) (omega arith) (omega arith) (omega arith) (omega arith)))).first

pub write_after-requires : goal.write_after-requires
write_after-requires c = (pieces c.args.o (omega (arith, numbers-short c.args.o (omega arith) (omega arith) (omega arith) (omega arith) (omega arith)))).second c.write_first_three.ensures

pub write_after-requires-2 : goal.write_after-requires-2
write_after-requires-2 c = (pieces c.args.o (omega (arith, numbers-short c.args.o (omega arith) (omega arith) (omega arith) (omega arith) (omega arith)))).third c.write_first_three.ensures c.write_after.ensures

pub write-requires : goal.write-requires
write-requires c = next_room (both (both c.write_first_three.ensures c.write_after.ensures) c.write_after-2.ensures) (10 ∷ []) (omega (arith, numbers-short c.args.o (omega arith) (omega arith) (omega arith) (omega arith) (omega arith)))

pub returns : goal.returns
returns c =
    let all = both (both (both c.write_first_three.ensures c.write_after.ensures) c.write_after-2.ensures) c.write.ensures in
    numbered-wrote c.args.o refl c.if-out-lt-LONGEST_NUMBERS.false (numbers-short c.args.o (omega arith) (omega arith) (omega arith) (omega arith) (omega arith)) all (grind (arith, all.same)) c.succeeded.ensures
