-- `scan::Store::look` meets its contract: the two claims are offered, or where the test finds nothing the look leaves everything.
-- Assumes nothing.
use Rattle.scan.proofs.New.{looked-none}
use Rattle.scan.proofs.Arrays.{arrays-refl}
use Rattle.scan.proofs.Store.look.Goals as goal

pub offer-requires-then-some_new : goal.offer-requires-then-some_new
offer-requires-then-some_new c = c.requires.to_next _ _ c.offer.ensures.offered

pub returns-else-some_new : goal.returns-else-some_new
returns-else-some_new c = record { looked = looked-none (c.some_new.ensures c.if-some_new.false); same = arrays-refl _ }
