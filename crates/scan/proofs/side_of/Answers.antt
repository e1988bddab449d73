-- `scan::side_of` meets its contract: each return is the side of one of the two cells. Assumes nothing.
use Rattle.std.proofs.Common.{sym, arith}
use Rattle.scan.proofs.Aims.{of-a, of-b}
use Rattle.scan.proofs.side_of.Goals as goal

pub returns-then-row-shape : goal.returns-then-row-shape
returns-then-row-shape c = sym (of-a _ _ c.if-row-shape.true)

pub returns : goal.returns
returns c = sym (of-b _ _ (omega (arith, c.if-row-shape.false)))
