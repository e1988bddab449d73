-- `text::write_digits` meets its contract. The invariant: the digits of the rows so far are written. Assumes nothing.
use Rattle.std.proofs.Common.{take}
use Rattle.text.specs.Text.{digits}
use Rattle.answer.specs.Page.{Wrote}
use Rattle.text.proofs.write_digits.Given as goal

abbrev pub invariant-loop-row : goal.invariant-loop-row
invariant-loop-row l = Wrote l.initial.page (digits (take l.row-index l.rows)) l.page
