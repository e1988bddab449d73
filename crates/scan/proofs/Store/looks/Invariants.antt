-- `scan::Store::looks` meets its contract. The invariant of its loop is `Scan`: the combinations that show the row, up to the part at hand, have been
-- looked at; and the arrays are the same. The measure is how many parts are left.
-- Assumes nothing.
use Rattle.scan.proofs.Scan.{Scan, left}
use Rattle.grid.specs.Held.{held}
use Rattle.scan.specs.Kept.{kept, SameArrays}
use Rattle.scan.proofs.Store.looks.Given as goal

abbrev pub invariant-loop-part : goal.invariant-loop-part
invariant-loop-part l =
    Scan (held l.grid) (kept l.initial.self) l.initial.self.tail l.claim.0 l.unseen l.lowest (kept l.self) l.self.tail l.part × SameArrays l.initial.self l.self

abbrev pub decreases-loop-part : goal.decreases-loop-part
decreases-loop-part l = left l.grid.shape.wires l.unseen l.part
