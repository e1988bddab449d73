-- `wires::some_within` meets its contract: what `any` tells of the test that the closure computes. Assumes nothing.
use Rattle.std.proofs.Common.{List, ℕ, ◌≡◌, refl, ◌∙◌, ◌||◌, rules, tests}
use Rattle.std.specs.List.{list_any}
use Rattle.std.proofs.lemmas.Iterator.{YieldsList-from_slice}
use Rattle.std.proofs.lemmas.Iterator.Search.{any_from_yields_List}
use Rattle.std.proofs.lemmas.List.Recursion.{same_from_clauses}
use Rattle.wires.specs.Terms.{containsb, some_within}
use Rattle.wires.proofs.some_within.Goals as goal

same : (r : ℕ) (sets : List ℕ) → list_any (containsb r) sets ≡ some_within sets r
unfolding some_within
same r = same_from_clauses (list_any (containsb r)) (λ sets. some_within sets r) (λ s b. containsb r s || b) refl (λ s ss. refl) (λ s ss. refl)

pub returns : goal.returns
returns c =
    any_from_yields_List (containsb c.args.r) _ _ _ c.any.ensures.ran (YieldsList-from_slice c.args.sets.now cc) (λ x b q k. search (rules, tests)) ∙ same c.args.r c.args.sets.now
