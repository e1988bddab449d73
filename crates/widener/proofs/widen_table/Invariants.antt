-- `widener::widen_table` meets its contract. The invariant, at every number of wires that holds both masks: the rows written at the end are the page as it stands with the rows that are left written from here on. Assumes nothing.
use Rattle.widener.proofs.Tabling.{Storing}
use Rattle.widener.proofs.widen_table.Given as goal

abbrev pub invariant-loop-i : goal.invariant-loop-i
invariant-loop-i l = Storing l.few l.more l.from l.first l.initial.page l.rows l.page l.i
