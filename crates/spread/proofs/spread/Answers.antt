-- `spread::spread` meets its contract, by its invariant. Assumes nothing.
use Rattle.std.proofs.Common.{arith, refl, ◌∙◌, length-set}
use Rattle.spread.proofs.Front.{front-start, front-turn, front_below, front-done}
use Rattle.scan.proofs.Arrays.{arrays-trans}
use Rattle.spread.proofs.spread.Goals as goal

pub loop-head-init : goal.loop-head-init
loop-head-init c = (front-start c.requires.inside c.requires.room c.clear.auto.reached c.clear.ensures, record { reached = refl; queue = refl; from = refl; by = refl; long = record { reached = length-set _ _ _ ∙ c.clear.auto.reached; queue = length-set _ _ _; from = refl; by = refl } })

pub offset_bounds-store-head : goal.offset_bounds-store-head
offset_bounds-store-head c = omega (arith, front_below c.loop-head.invariant.0 c.loop-head-test.true, c.loop-head.invariant.0.reach.room.queue)

pub bounds-store-head : goal.bounds-store-head
bounds-store-head c = omega (arith, front_below c.loop-head.invariant.0 c.loop-head-test.true, c.loop-head.invariant.0.reach.room.queue)

pub loop-head-smaller : goal.loop-head-smaller
loop-head-smaller c = omega (arith, (front_below c.loop-head.invariant.0 c.loop-head-test.true))

pub loop-head-preserved : goal.loop-head-preserved
loop-head-preserved c = (front-turn c.loop-head.invariant.0 c.loop-head-test.true c.looks.ensures.swept, arrays-trans c.loop-head.invariant.1 c.looks.ensures.same)

pub returns : goal.returns
returns c = record { spread = front-done c.loop-head.invariant.0 c.loop-head-test.false; same = c.loop-head.invariant.1 }
