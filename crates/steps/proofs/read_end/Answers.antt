-- `steps::read_end` meets its contract: the test says which case of `end` holds. Assumes nothing.
use borrow.Author.Tests.{lt-ltb, le-ltb}
use Rattle.steps.specs.Bytes.{end}
use Rattle.steps.proofs.read_end.Goals as goal

pub returns-then-at-sheet : goal.returns-then-at-sheet
unfolding end
returns-then-at-sheet c = simp (lt-ltb _ _ c.if-at-sheet.true)

pub returns-else-at-sheet : goal.returns-else-at-sheet
unfolding end
returns-else-at-sheet c = simp (le-ltb _ _ c.if-at-sheet.false)
