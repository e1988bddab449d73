-- `faults::strike` meets its contract. The loop's invariant: the table is the turned one with the places of the excuses passed. Assumes nothing.
use Rattle.faults.proofs.Strikes.{Waives}
use Rattle.faults.proofs.strike.Given as goal

abbrev pub invariant-loop-excuse : goal.invariant-loop-excuse
invariant-loop-excuse l = Waives l.initial.table.wires l.excuses l.excuse-index l.initial.table.words l.table
