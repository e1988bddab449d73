-- `faults::fill_faults` meets its contract. The loop's invariant: the table is that of the rules passed. Assumes nothing.
use Rattle.faults.proofs.Boards.{FirstFaults}
use Rattle.faults.proofs.fill_faults.Given as goal

abbrev pub invariant-loop-rule : goal.invariant-loop-rule
invariant-loop-rule l = FirstFaults l.initial.table.wires l.rules l.rule-index l.table
