-- `mover::drop_none` meets its contract: all but the last two bytes are one run. Assumes nothing.
use mathlib.Core.Path.{sym, ap, ◌∙◌}
use Prim.Native.Nat.{◌-◌}
use native.Mathlib.Nat.{zero-add}
use native.Mathlib.Omega.{arith}
use lib.ListN.{length, take}
use lib.Seq.{length-take-le}
use Rattle.steps.specs.Outcome.{success}
use Rattle.mover.proofs.Ends.{front_fits, put-no-room, put-wrote}
use Rattle.mover.proofs.drop_none.Goals as goal

pub returns-then-out-kept : goal.returns-then-out-kept
returns-then-out-kept c = let kept = length c.args.sheet.now - 2 in
    put-no-room (take kept c.args.sheet.now) c.args.out.now (omega (arith, length-take-le kept c.args.sheet.now (omega arith))) c.refused.ensures

pub slice_bounds-write-end : goal.slice_bounds-write-end
slice_bounds-write-end c = sym (length-take-le _ _ (omega arith))

pub write-requires : goal.write-requires
write-requires c = front_fits _ _ c.args.out.now c.if-out-kept.false

pub returns : goal.returns
returns c =
    let kept = length c.args.sheet.now - 2 in
    let end = put-wrote (take kept c.args.sheet.now) c.args.out.now _ (omega (arith, length-take-le kept c.args.sheet.now (omega arith))) (c.succeeded.ensures ∙ ap (success 0) (c.write.ensures.stored.value ∙ zero-add _)) c.write.ensures.stored.out_after in
    record { outcome = end.outcome; exit_is = grind (arith, end.exit_is, c.write.ensures.same) }
