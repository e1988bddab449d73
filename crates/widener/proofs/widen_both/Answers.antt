-- `widener::widen_both` meets its contract: the checker's outcome, then the other causes of refusal in their order, then the widened sheet. Assumes nothing.
use mathlib.Core.Path.{sym, ◌∙◌}
use Rattle.std.proofs.Math.Logic.{∥∥₁_elim}
use Rattle.std.proofs.Props.{props}
use Rattle.widener.specs.Writing.{Wide}
use Rattle.widener.proofs.Ends.{ends-walk, ends-checked, wide-asks, ends-asks, ends-room, ends-written}
use Rattle.widener.proofs.widen_both.Goals as goal

pub returns-then-checked-eq21 : goal.returns-then-checked-eq21
returns-then-checked-eq21 c = λ P Q tp tq.
    ends-walk _ _ _ _ _ _ _ _ _ _ tp tq c.check_answer-checked.ensures c.if-checked-eq21.true c.refused.ensures

pub returns-then-checked-ne20 : goal.returns-then-checked-ne20
returns-then-checked-ne20 c = λ P Q tp tq.
    ends-checked _ _ _ _ _ _ _ _ _ _ tp tq c.check_answer-checked.ensures c.if-checked-eq21.false c.if-checked-ne20.true

pub returns-then-not-asks_no_more : goal.returns-then-not-asks_no_more
returns-then-not-asks_no_more c = λ P Q tp tq.
    let asked = c.asks_no_more.ensures P Q tp tq in
    ends-asks _ _ _ _ _ _ _ _ _ _ tp tq
    c.check_answer-checked.ensures
    c.if-checked-ne20.false
    (sym asked ∙ c.if-not-asks_no_more.true)
    c.refused-then-not-asks_no_more.ensures

pub returns-then-out-lt-LONGEST : goal.returns-then-out-lt-LONGEST
returns-then-out-lt-LONGEST c = λ P Q tp tq.
    let asked = c.asks_no_more.ensures P Q tp tq in
    ends-room _ _ _ _ _ _ _ _ _ _ tp tq
    c.check_answer-checked.ensures
    c.if-checked-ne20.false
    (sym asked ∙ c.if-not-asks_no_more.false)
    c.if-out-lt-LONGEST.true
    c.refused-then-out-lt-LONGEST.ensures

pub write_wide-written-requires : goal.write_wide-written-requires
write_wide-written-requires c =
    ∥∥₁_elim c.args.p.now.taken is_prop (λ p. ∥∥₁_elim c.args.q.now.taken is_prop (λ q.
    wide-asks _ _ _ _ _ _ _ _ _ _ p.1 q.1 c.check_answer-checked.ensures c.if-checked-ne20.false c.if-out-lt-LONGEST.false))
  where
    is_prop : IsProp (Wide c.args.p.now.head c.args.q.now.head c.args.sheet.now c.args.out.now)
    is_prop = Prim.hlevel props

pub returns : goal.returns
returns c = λ P Q tp tq.
    let asked = c.asks_no_more.ensures P Q tp tq in
    ends-written _ _ _ _ _ _ _ _ _ _ tp tq
    c.check_answer-checked.ensures
    c.if-checked-ne20.false
    (sym asked ∙ c.if-not-asks_no_more.false)
    c.write_wide-written.ensures
    c.if-out-lt-LONGEST.false
    c.succeeded.ensures
