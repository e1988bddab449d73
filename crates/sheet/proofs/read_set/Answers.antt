-- `sheet::read_set` meets its contract, by its invariant. Assumes nothing.
use Rattle.std.proofs.Common.{rules, ◌+◌, ◌-◌, sym, ap, ◌∙◌, arith}
use Rattle.steps.specs.Found.{as_read}
use Rattle.steps.proofs.Steps.{found, faulty}
use Rattle.steps.proofs.Entries.{entry-bounds, entry-byte, entry-here, entries-stop}
use Rattle.sheet.proofs.Masks.{mask_start, mask-turn, mask_done}
use Rattle.sheet.proofs.read_set.Goals as goal

pub loop-init : goal.loop-init
loop-init c = (search rules, search rules, mask_start _ _ _ _)

pub returns-in_err-read_entry : goal.returns-in_err-read_entry
returns-in_err-read_entry c =
    let is = faulty _ _ _ c.read_entry.ensures c.in_err-read_entry.was in
    rw (c.loop.invariant.2, entries-stop _ _ _ _ _ (c.args.count - c.loop.counter) _ (omega arith) is) (search rules)

pub bounds-sheet-place : goal.bounds-sheet-place
bounds-sheet-place c = (entry-byte _ _ _ _ _ _ (found _ _ _ _ c.read_entry.ensures c.in_ok-read_entry.was)).0

pub overflow_shl-bits : goal.overflow_shl-bits
overflow_shl-bits c =
    let within = entry-bounds _ _ _ _ _ _ (entry-here _ _ _ _ _ _ (found _ _ _ _ c.read_entry.ensures c.in_ok-read_entry.was)) in
    omega arith

pub overflow_add-least : goal.overflow_add-least
overflow_add-least c =
    let within = entry-bounds _ _ _ _ _ _ (entry-here _ _ _ _ _ _ (found _ _ _ _ c.read_entry.ensures c.in_ok-read_entry.was)) in
    omega arith

pub overflow_add-place : goal.overflow_add-place
overflow_add-place c =
    let one = entry-byte _ _ _ _ _ _ (found _ _ _ _ c.read_entry.ensures c.in_ok-read_entry.was) in
    omega arith

pub loop-preserved : goal.loop-preserved
loop-preserved c =
    let is = entry-here _ _ _ _ _ _ (found _ _ _ _ c.read_entry.ensures c.in_ok-read_entry.was) in
    let within = entry-bounds _ _ _ _ _ _ is in
    let turn = mask-turn _ _ _ _ _ _ (c.args.count - (c.loop.counter + 1)) _ _ (omega arith) c.loop.invariant.1 c.requires is in
    (omega arith, turn.0, c.loop.invariant.2 ∙ turn.1)

pub returns : goal.returns
returns c = ap as_read (sym (c.loop.invariant.2 ∙ mask_done (c.args.count - c.loop.counter) _ _ _ _ _ (omega arith)))
