-- `wires::first_broken` meets its contract: what `position` tells of the closure's answers. Assumes nothing.
use Rattle.std.proofs.Common.{List, ℕ, ◌<◌, length, Option, Some, None, MatchOption, rules, tests, arith}
use Rattle.std.specs.List.{HoldsAt, AllWithin}
use Rattle.std.proofs.lemmas.Iterator.{YieldsList-from_slice, IsFirst-from_position}
use Rattle.wires.specs.Terms.{Meets, FirstBroken}
use Rattle.wires.proofs.first_broken.Goals as goal

-- what `position` tells is the first broken rule
first : (rules : List ℕ) (set : ℕ) (r : Option ℕ)
    → MatchOption r (AllWithin (λ x. Meets x set) rules 0 (length rules)) (λ i. (i < length rules) × HoldsAt (λ x. Meets x set → ⊥) rules i × AllWithin (λ x. Meets x set) rules 0 i)
    → FirstBroken rules set r
first rules set None h = λ i l. h i 0 (omega arith) l
first rules set (Some k) h = record { within = h.0; broken = h.1 0; before = λ i l. h.2 i 0 (omega arith) l }

pub returns : goal.returns
returns c =
    first _ _ _ (IsFirst-from_position _ _ _ (λ x. Meets x c.args.truths → ⊥) (λ x. Meets x c.args.truths) c.position.ensures.ran (YieldsList-from_slice c.args.rules.now cc) (λ x q k. search (rules, tests)) (λ x q k. search (rules, tests)))
