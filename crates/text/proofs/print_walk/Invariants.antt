-- `text::print_walk` meets its contract. The invariant: the lines are written but for those of the entries from the index on. Assumes nothing.
use Rattle.answer.proofs.Pieces.{Left}
use Rattle.text.proofs.Lines.{lines_left}
use Rattle.text.proofs.print_walk.Given as goal

abbrev pub invariant-loop-i : goal.invariant-loop-i
invariant-loop-i l = Left l.initial.page (lines_left l.sheet l.i-end 0) l.page (lines_left l.sheet l.i-end l.i)
