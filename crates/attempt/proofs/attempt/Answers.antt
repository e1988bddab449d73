-- `attempt::attempt` meets its contract: the laws of `Attempts`, at the spread's store and the opposite of the start.
-- Assumes nothing.
use Rattle.std.proofs.Common.{arith, refl}
use Rattle.attempt.proofs.Attempts.{attempt-good, attempt-backs, attempt-fails}
use Rattle.attempt.proofs.attempt.Goals as goal

pub returns-then-store-t-eq0-clause-attempted : goal.returns-then-store-t-eq0-clause-attempted
returns-then-store-t-eq0-clause-attempted c = attempt-good c.args.grid.now.sound c.requires c.spread.ensures.spread c.opposite-target.ensures c.if-store-t-eq0.true c.merge.ensures

pub way_back-requires : goal.way_back-requires
way_back-requires c = attempt-backs c.args.grid.now.sound c.requires c.spread.ensures.spread c.opposite-target.ensures c.if-store-t-eq0.false

pub returns-clause-attempted : goal.returns-clause-attempted
returns-clause-attempted c = attempt-fails c.args.grid.now.sound c.requires c.spread.ensures.spread c.opposite-target.ensures c.if-store-t-eq0.false refl refl c.way_back.ensures (grind (arith, c.way_back.ensures.wrote.same))
