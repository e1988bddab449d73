-- `board::check::Walk::lowest_bad_step` meets its contract: what `find` tells of the entries. Assumes nothing.
use Rattle.std.proofs.Common.{rules, ◌≡◌, not, true, false, ℕ, refl}
use Rattle.std.proofs.lemmas.Iterator.{first_from_find, YieldsList-from_range}
use native.Mathlib.Nat.{sub-zero}
use borrow.Author.Tests.{tests}
use Rattle.board.specs.Places.{step_in}
use Rattle.board.proofs.Lowest.{lowest-found}
use Rattle.board.proofs.check.Walk.lowest_bad_step.Goals as goal

pub returns : goal.returns
returns c =
    let bad = λ (i : ℕ). not (step_in c.args.self.now.job.head c.args.self.now.job.masks.now c.args.self.now.sheet.now c.args.self.now.count i) in
    let found = lowest-found bad c.args.self.now.count c.find.result
    (first_from_find _ _ _ (λ i. bad i ≡ true) (λ i. bad i ≡ false) c.find.ensures.ran (YieldsList-from_range 0 c.args.self.now.count _ refl (sub-zero _))
    (λ x q k. search (rules, tests)) (λ x q k. search (rules, tests))) in
    record { below = found.0; lowest = found.1 }
