-- `sheet::check_pins` meets its contract, by its invariant. Assumes nothing.
use Rattle.std.proofs.Common.{rules, ◌+◌, ◌-◌, sym, ap, ◌∙◌, arith}
use Rattle.steps.specs.Found.{as_read}
use Rattle.sheet.specs.JobFound.{pins_pass}
use Rattle.steps.proofs.Steps.{found, faulty}
use Rattle.steps.proofs.Entries.{entry-bounds, entry-byte, entry-here, entries-go, entries-stop, entries_none}
use Rattle.sheet.proofs.check_pins.Goals as goal

pub loop-init : goal.loop-init
unfolding pins_pass
loop-init c = (search rules, search rules)

pub returns-in_err-read_entry : goal.returns-in_err-read_entry
returns-in_err-read_entry c =
    let is = faulty _ _ _ c.read_entry.ensures c.in_err-read_entry.was in
    rw (c.loop.invariant.1, entries-stop _ _ _ _ _ (c.args.count - c.loop.counter) _ (omega arith) is) (search rules)

pub bounds-sheet-place : goal.bounds-sheet-place
bounds-sheet-place c = (entry-byte _ _ _ _ _ _ (found _ _ _ _ c.read_entry.ensures c.in_ok-read_entry.was)).0

pub overflow_add-least : goal.overflow_add-least
overflow_add-least c =
    let within = entry-bounds _ _ _ _ _ _ (entry-here _ _ _ _ _ _ (found _ _ _ _ c.read_entry.ensures c.in_ok-read_entry.was)) in
    omega arith

pub overflow_add-place : goal.overflow_add-place
overflow_add-place c =
    let one = entry-byte _ _ _ _ _ _ (found _ _ _ _ c.read_entry.ensures c.in_ok-read_entry.was) in
    omega arith

pub loop-preserved : goal.loop-preserved
loop-preserved c =
    let is = entry-here _ _ _ _ _ _ (found _ _ _ _ c.read_entry.ensures c.in_ok-read_entry.was) in
    let within = entry-bounds _ _ _ _ _ _ is in
    (omega arith, c.loop.invariant.1 ∙ entries-go _ _ _ _ _ _ (c.args.count - (c.loop.counter + 1)) _ _ (omega arith) is)

pub returns : goal.returns
returns c = ap as_read (sym (c.loop.invariant.1 ∙ entries_none _ _ _ _ _ (c.args.count - c.loop.counter) (omega arith)))
