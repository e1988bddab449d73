-- `faults::strike` meets its contract, by its invariant. Assumes nothing.
use native.Mathlib.Omega.{arith}
use Rattle.faults.proofs.Strikes.{one-waived, struck}
use Rattle.faults.proofs.strike.Goals as goal

pub loop-excuse-preserved : goal.loop-excuse-preserved
loop-excuse-preserved c = one-waived _ _ _ _ _ _ c.loop-excuse.invariant c.fill_excuse.ensures

pub returns : goal.returns
returns c = record {
  wires = c.loop-excuse.invariant.wires;
  tells = struck _ _ _ c.args.table.now _ c.loop-excuse.table _ c.words_used-end.ensures.value (omega arith) c.turn.ensures c.loop-excuse.invariant c.turn-2.ensures;
}
