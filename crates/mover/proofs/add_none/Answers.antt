-- `mover::add_none` meets its contract: the sheet and then the count are one run. Assumes nothing.
use mathlib.Core.Path.{ap, ◌∙◌}
use mathlib.Core.List.{◌++◌}
use native.Mathlib.Omega.{arith}
use lib.ListN.{length-append}
use Rattle.steps.specs.Outcome.{success}
use Rattle.answer.proofs.Pieces.{both, next_room}
use Rattle.answer.specs.Written.{two}
use Rattle.mover.proofs.Ends.{put-no-room, put-wrote}
use Rattle.mover.proofs.add_none.Goals as goal

pub returns-then-out-sheet : goal.returns-then-out-sheet
returns-then-out-sheet c = put-no-room (c.args.sheet.now ++ two 0) c.args.out.now (omega (arith, length-append c.args.sheet.now (two 0))) c.refused.ensures

pub write_two-requires : goal.write_two-requires
write_two-requires c = next_room c.write.ensures (two 0) (omega (arith, length-append c.args.sheet.now (two 0)))

pub returns : goal.returns
returns c =
    let long = length-append c.args.sheet.now (two 0) in
    let all = both c.write.ensures c.write_two.ensures in
    let end = put-wrote (c.args.sheet.now ++ two 0) c.args.out.now _ (omega (arith, long)) (c.succeeded.ensures ∙ ap (success 0) (omega (arith, all.stored.value))) all.stored.out_after in
    record { outcome = end.outcome; exit_is = grind (arith, end.exit_is, all.same) }
