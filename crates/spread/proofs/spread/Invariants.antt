-- `spread::spread` meets its contract. The invariant of its loop is `Front`: the queue is sound, and closed up to `head`; and the arrays are the same. The measure is the number of claims less `head`, since `head` stays below the queue's end, which is the number of marks.
-- Assumes nothing.
use Prim.Native.Nat.{◌-◌}
use Rattle.spread.proofs.Front.{Front}
use Rattle.grid.specs.Held.{held}
use Rattle.scan.specs.Kept.{kept, SameArrays}
use Rattle.spread.proofs.spread.Given as goal

abbrev pub invariant-loop-head : goal.invariant-loop-head
invariant-loop-head l = Front (held l.grid) l.m (kept l.store) l.store.tail l.head × SameArrays l.fn.store l.store

abbrev pub decreases-loop-head : goal.decreases-loop-head
decreases-loop-head l = l.n - l.head
