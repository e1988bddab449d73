-- `answer::read_bits` meets its contract, by its invariant. Assumes nothing.
use Rattle.std.proofs.Common.{rules, ◌+◌, ◌-◌, sym, ap, ◌∙◌, arith}
use Rattle.steps.specs.Found.{as_read}
use Rattle.steps.proofs.Steps.{found, faulty}
use Rattle.answer.specs.AnswerFound.{bits_pass}
use Rattle.answer.proofs.Many.{bits-many, many-go, many-stop, many-done}
use Rattle.answer.proofs.read_bits.Goals as goal

pub loop-init : goal.loop-init
unfolding bits_pass
loop-init c = search rules

pub returns-in_err-next : goal.returns-in_err-next
returns-in_err-next c =
    let is = faulty _ _ _ c.read_bit.ensures c.in_err-next.was in
    rw (c.loop.invariant ∙ many-stop bits-many c.args.rows _ _ (c.args.rows - c.loop.counter) _ (omega arith) is) (search rules)

pub loop-preserved : goal.loop-preserved
loop-preserved c =
    let is = found _ _ _ _ c.read_bit.ensures c.in_ok-next.was in
    c.loop.invariant ∙ many-go bits-many _ _ _ _ (c.args.rows - (c.loop.counter + 1)) _ _ (omega arith) is

pub returns : goal.returns
returns c = ap as_read (sym (c.loop.invariant ∙ many-done bits-many _ _ _ (c.args.rows - c.loop.counter) (omega arith)))
