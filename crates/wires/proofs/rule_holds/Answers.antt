-- `wires::rule_holds` meets its contract: two masks have no digit in common exactly where their `&` is 0. Assumes nothing.
use Rattle.std.proofs.Common.{arith, ap, not, ne_eqb}
use Rattle.std.proofs.lemmas.Bool.Decides.{nat_tests}
use Rattle.wires.proofs.Terms.{meets-iff}
use Rattle.wires.proofs.rule_holds.Goals as goal

pub returns : goal.returns
returns c =
    let m = meets-iff c.args.rule c.args.truths in
    (λ e. m.0 (grind (arith, nat_tests)), λ h. ap not (ne_eqb _ _ (m.1 h)))
