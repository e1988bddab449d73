-- `faults::fill_excuse` meets its contract, by the laws `waived` and `unwaived`. Assumes nothing.
use Rattle.faults.proofs.Places.{cube}
use Rattle.faults.proofs.Boards.{waived, unwaived}
use Rattle.faults.proofs.fill_excuse.Goals as goal

pub fill_cube-requires : goal.fill_cube-requires
fill_cube-requires c = cube _ _ _ c.arranged-zeros.ensures.small c.arranged-ones.ensures.small

pub returns-then-zeros-ones-eq0 : goal.returns-then-zeros-ones-eq0
returns-then-zeros-ones-eq0 c = waived _ _ _ _ _ _ c.evens.ensures c.evens-2.ensures c.arranged-ones.ensures c.arranged-zeros.ensures
    c.requires _
    c.if-zeros-ones-eq0.true
    c.fill_cube.ensures

pub returns-else-zeros-ones-eq0 : goal.returns-else-zeros-ones-eq0
returns-else-zeros-ones-eq0 c = unwaived _ _ _ _ _ _ c.evens.ensures c.evens-2.ensures c.arranged-ones.ensures c.arranged-zeros.ensures
    c.requires
    c.if-zeros-ones-eq0.false
