-- `sheet::read_counted_set` meets its contract. Assumes nothing.
use Rattle.std.proofs.Common.{rules, refl, ap, arith}
use Rattle.steps.specs.Found.{as_read}
use Rattle.sheet.specs.JobSheet.{counted_mask}
use Rattle.steps.proofs.Steps.{found, go_on, stop}
use Rattle.steps.proofs.Entries.{count-byte, count-here}
use Rattle.sheet.proofs.read_counted_set.Goals as goal

pub returns-in_err-read_count : goal.returns-in_err-read_count
unfolding counted_mask
returns-in_err-read_count c = rw (stop _ _ _ _ c.read_count.ensures c.in_err-read_count.was) (search rules)

pub overflow_add-at : goal.overflow_add-at
overflow_add-at c =
    let is = count-byte _ _ _ _ _ (found _ _ _ _ c.read_count.ensures c.in_ok-read_count.was) in
    omega arith

pub bounds-sheet-at : goal.bounds-sheet-at
bounds-sheet-at c = (count-byte _ _ _ _ _ (found _ _ _ _ c.read_count.ensures c.in_ok-read_count.was)).0

pub returns : goal.returns
unfolding counted_mask
returns c =
    let is = count-here _ _ _ _ _ (found _ _ _ _ c.read_count.ensures c.in_ok-read_count.was) in
    rw (go_on _ _ _ _ _ refl (ap as_read is)) c.read_set.ensures
