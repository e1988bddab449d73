-- `board::check::Tables::judge` meets its contract: where the test tells a rule first, that combination is the lowest. Assumes nothing.
use Rattle.std.proofs.Common.{◌≡◌, ℕ, ◌^◌, ◌<◌, ◌≤◌, List, Some, Option, false, refl, sym, ap, ◌∙◌, arith, below_more}
use Rattle.std.specs.Prelude.{is_some}
use borrow.Author.Tests.{lt-ltb, le-ltb}
use Rattle.steps.specs.Outcome.{success, rule_broken}
use Rattle.sheet.specs.declared.JobHead.{JobHead}
use Rattle.board.specs.Tested.{rule_of}
use Rattle.board.specs.Tests.{lowest}
use Rattle.board.specs.Check.{tables_at}
use Rattle.board.specs.JobBoard.{head_board}
use Rattle.board.specs.Places.{row_a, row_b, fault_in, rule_in, tested_in}
use Rattle.board.proofs.Tested.{tested-broken}
use Rattle.board.proofs.Lowest.{lowest-is, lowest-none}
use Rattle.board.proofs.Judging.{combinations-are}
use Rattle.board.proofs.check.Tables.judge.Goals as goal

-- the combinations before a break no rule; what the test told at a
module _ (h : JobHead) (masks s : List ℕ) (a : ℕ) (before : (k : ℕ) → k < a → fault_in h masks s k ≡ false) where
  fault-is : (f : Option ℕ) → f ≡ tested_in h masks s a → fault_in h masks s a ≡ is_some f
  fault-is f told = sym (ap is_some told ∙ tested-broken (head_board h masks) a (row_a h s a) (row_b h s a))

  broken : a < 2 ^ h.wires → (r : ℕ) → Some r ≡ tested_in h masks s a
      → rule_broken a r ≡ tables_at (head_board h masks) (rule_in h masks s) (lowest (fault_in h masks s) (2 ^ h.wires))
  broken l r told =
      rw (← lowest-is (fault_in h masks s) (2 ^ h.wires) a l (fault-is (Some r) told) before, lt-ltb a (2 ^ h.wires) l)
      (ap (rule_broken a) (ap rule_of told))

  sound : 2 ^ h.wires ≤ a → success 20 0 ≡ tables_at (head_board h masks) (rule_in h masks s) (lowest (fault_in h masks s) (2 ^ h.wires))
  sound l =
      let none = lowest-none (fault_in h masks s) (2 ^ h.wires) (λ k g. before k (omega arith)) in
      rw (none, le-ltb (2 ^ h.wires) (2 ^ h.wires) (omega arith)) refl

pub returns-in-Some : goal.returns-in-Some
returns-in-Some c =
    let combinations = combinations-are _ c.args.self.now.job.sized.wires in
    c.rule_broken.ensures
    ∙ broken c.args.self.now.job.head c.args.self.now.job.masks.now c.args.self.now.sheet.now _ c.loop-a.invariant (omega arith) _ (sym c.in-Some.is ∙ c.fault_at.ensures)

pub loop-a-preserved : goal.loop-a-preserved
loop-a-preserved c =
    below_more _ _ c.loop-a.invariant
    (fault-is c.args.self.now.job.head c.args.self.now.job.masks.now c.args.self.now.sheet.now _ c.loop-a.invariant _ (sym c.in_default.is ∙ c.fault_at.ensures))

pub returns : goal.returns
returns c =
    let combinations = combinations-are _ c.args.self.now.job.sized.wires in
    c.succeeded.ensures ∙ sound c.args.self.now.job.head c.args.self.now.job.masks.now c.args.self.now.sheet.now _ c.loop-a.invariant (omega arith)
