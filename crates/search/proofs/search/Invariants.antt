-- `search::search` meets its contract. The invariant is `Searching`: all rows below `row` are settled; and the store has a place for each claim.
-- Assumes nothing.
use Rattle.search.proofs.Turns.{Searching}
use Rattle.grid.specs.Held.{held}
use Rattle.scan.specs.Reach.{Room}
use Rattle.scan.specs.Kept.{kept}
use Rattle.search.proofs.search.Given as goal

abbrev pub invariant-loop-row : goal.invariant-loop-row
invariant-loop-row l = Searching (held l.grid) l.initial.walk l.state l.walk l.row × Room (held l.grid) (kept l.store)
