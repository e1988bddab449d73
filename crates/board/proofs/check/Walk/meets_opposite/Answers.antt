-- `board::check::Walk::meets_opposite` meets its contract: what `any` tells of the entries. Assumes nothing.
use Rattle.std.proofs.Common.{rules, ◌≡◌, true, false, refl}
use Rattle.std.proofs.lemmas.Iterator.{cases_from_any, YieldsList-from_range}
use native.Mathlib.Nat.{sub-zero}
use borrow.Author.Tests.{tests}
use Rattle.board.specs.Places.{opposed_in}
use Rattle.board.proofs.Walking.{any-found, flip}
use Rattle.board.proofs.check.Walk.meets_opposite.Goals as goal

pub returns : goal.returns
returns c =
    let opposed = opposed_in c.args.self.now.sheet.now in
    any-found opposed c.args.self.now.count c.any.result
    (cases_from_any _ _ _ (λ i. opposed i ≡ true) (λ i. opposed i ≡ false) c.any.ensures.ran (YieldsList-from_range 0 c.args.self.now.count _ refl (sub-zero _))
    (λ x q k. search (rules, tests, flip)) (λ x q k. search (rules, tests, flip)))
