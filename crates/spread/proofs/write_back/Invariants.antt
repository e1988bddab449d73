-- `spread::write_back` meets its contract. The invariant of its loop is `Back`: the entries so far, and the claim's place in the queue, which falls with each turn. The measure is the room for the entries that are left.
-- Assumes nothing.
use Prim.Native.Nat.{◌+◌, ◌*◌, ◌-◌}
use Rattle.spread.proofs.Back.{Back}
use Rattle.spread.proofs.write_back.Given as goal

abbrev pub invariant-loop-c : goal.invariant-loop-c
invariant-loop-c l = Back l.queue l.from l.by l.r l.s l.initial.c l.initial.page l.page l.c

abbrev pub decreases-loop-c : goal.decreases-loop-c
decreases-loop-c l = l.initial.page.at + 4 * l.r - l.page.at
