-- `faults::fill_rule` meets its contract, by the laws `marked` and `unmarked`. Assumes nothing.
use Rattle.faults.proofs.Places.{cube}
use Rattle.faults.proofs.Boards.{marked, unmarked}
use Rattle.faults.proofs.fill_rule.Goals as goal

pub fill_cube-requires : goal.fill_cube-requires
fill_cube-requires c = cube _ _ _ c.arranged-down.ensures.small c.arranged-up.ensures.small

pub returns-then-down-up-eq0 : goal.returns-then-down-up-eq0
returns-then-down-up-eq0 c = marked _ _ _ _ _ _ c.evens.ensures c.evens-2.ensures c.arranged-down.ensures c.arranged-up.ensures _
    c.if-down-up-eq0.true
    c.fill_cube.ensures

pub returns-else-down-up-eq0 : goal.returns-else-down-up-eq0
returns-else-down-up-eq0 c = unmarked _ _ _ _ _ _ c.evens.ensures c.evens-2.ensures c.arranged-down.ensures c.arranged-up.ensures
    c.if-down-up-eq0.false
