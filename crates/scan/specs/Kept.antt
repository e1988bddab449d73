-- A store as the struct of `src/lib.rt` holds it, whose arrays are lent.
--     kept          the arrays, as they are
--     SameArrays    the later store has the earlier one's arrays, and no others in their place, each as long as it was
-- Assumes nothing: these are definitions.
use Rattle.std.specs.Prelude.{◌≡◌}
use Rattle.scan.specs.Reach.{Store, store, Same}
use Rattle.scan.specs.declared.Store as lent

abbrev pub kept : lent.Store → Store
kept s = store s.reached.now s.queue.now s.from.now s.by.now

pub record SameArrays (s t : lent.Store) : Type 0 where
  pub reached : t.reached.ghost_name ≡ s.reached.ghost_name
  pub queue : t.queue.ghost_name ≡ s.queue.ghost_name
  pub from : t.from.ghost_name ≡ s.from.ghost_name
  pub by : t.by.ghost_name ≡ s.by.ghost_name
  pub long : Same (kept s) (kept t)
