-- `scan::other_rows` meets its contract: each branch is the rows of one of the two cells. Assumes nothing.
use Rattle.std.proofs.Common.{sym}
use Rattle.scan.proofs.Aims.{other-a, other-b}
use Rattle.scan.proofs.other_rows.Goals as goal

pub returns-then-own-grid : goal.returns-then-own-grid
returns-then-own-grid c = sym (other-b _ _ c.if-own-grid.true)

pub returns-else-own-grid : goal.returns-else-own-grid
returns-else-own-grid c = sym (other-a _ _ c.if-own-grid.false)
