-- `answer::read_entries` meets its contract, by its invariant. Assumes nothing.
use Rattle.std.proofs.Common.{rules, ◌+◌, ◌-◌, sym, ap, ◌∙◌, arith}
use Rattle.steps.specs.Found.{as_read}
use Rattle.steps.proofs.Steps.{found, faulty}
use Rattle.answer.specs.AnswerFound.{entries_pass}
use Rattle.answer.proofs.Many.{entries-many, many-go, many-stop, many-done}
use Rattle.answer.proofs.Sections.{entry-there, no-claim, no-combination}
use Rattle.answer.proofs.read_entries.Goals as goal

pub loop-init : goal.loop-init
unfolding entries_pass
loop-init c = search rules

pub returns-in_err-middle : goal.returns-in_err-middle
returns-in_err-middle c =
    let is = no-claim _ _ _ _ _ (faulty _ _ _ c.read_below.ensures c.in_err-middle.was) in
    rw (c.loop.invariant ∙ many-stop (entries-many c.args.claims c.args.combinations) c.args.count _ _ (c.args.count - c.loop.counter) _ (omega arith) is) (search rules)

pub returns-in_err-next : goal.returns-in_err-next
returns-in_err-next c =
    let claim = found _ _ _ _ c.read_below.ensures c.in_ok-middle.was in
    let is = no-combination _ _ _ _ _ _ claim _ (faulty _ _ _ c.read_below-in-loop.ensures c.in_err-next.was) in
    rw (c.loop.invariant ∙ many-stop (entries-many c.args.claims c.args.combinations) c.args.count _ _ (c.args.count - c.loop.counter) _ (omega arith) is) (search rules)

pub loop-preserved : goal.loop-preserved
loop-preserved c =
    let claim = found _ _ _ _ c.read_below.ensures c.in_ok-middle.was in
    let is = entry-there _ _ _ _ _ _ claim _ _ (found _ _ _ _ c.read_below-in-loop.ensures c.in_ok-next.was) in
    c.loop.invariant ∙ many-go (entries-many c.args.claims c.args.combinations) c.args.count _ _ _ (c.args.count - (c.loop.counter + 1)) _ _ (omega arith) is

pub returns : goal.returns
returns c = ap as_read (sym (c.loop.invariant ∙ many-done (entries-many _ _) _ _ _ (c.args.count - c.loop.counter) (omega arith)))
