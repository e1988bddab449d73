-- `widener::widen_table` meets its contract, by its invariant. Assumes nothing.
use Rattle.std.proofs.Common.{arith}
use Rattle.widener.proofs.Tabling.{storing-none, storing-turn, storing-all}
use Rattle.widener.proofs.widen_table.Goals as goal

pub loop-i-init : goal.loop-i-init
loop-i-init c = storing-none _ _ _ _ _ _

pub loop-i-preserved : goal.loop-i-preserved
loop-i-preserved c = storing-turn _ _ _ _ _ _ _ _ _ _ _ c.loop-i.invariant c.loop-i-test.true c.row_placed.ensures c.row_shown-r.ensures.row c.write_byte.ensures

pub returns : goal.returns
returns c = storing-all _ _ _ _ _ _ _ _ _ c.loop-i.invariant c.loop-i-test.false (omega arith) c.row_count-rows.ensures c.write_two.ensures
