-- `asking::all_within` meets its contract: what `all` tells of the test that the closure computes. Assumes nothing.
use Rattle.std.proofs.Common.{◌≡◌, ℕ, ◌&&◌, List, refl, ◌∙◌, rules, tests}
use Rattle.std.specs.List.{list_all}
use Rattle.std.proofs.lemmas.Iterator.{YieldsList-from_slice}
use Rattle.std.proofs.lemmas.Iterator.Search.{all_from_yields_List}
use Rattle.std.proofs.lemmas.List.Recursion.{same_from_clauses}
use Rattle.wires.specs.Terms.{some_within}
use Rattle.asking.specs.Asks.{all_within}
use Rattle.asking.proofs.all_within.Goals as goal

same : (ps sets : List ℕ) → list_all (some_within ps) sets ≡ all_within ps sets
unfolding all_within
same ps = same_from_clauses (list_all (some_within ps)) (all_within ps) (λ s b. some_within ps s && b) refl (λ s ss. refl) (λ s ss. refl)

pub returns : goal.returns
returns c =
    all_from_yields_List (some_within c.args.narrow.now) _ _ _ c.all.ensures.ran (YieldsList-from_slice c.args.wide.now cc) (λ x b q k. search (rules, tests))
    ∙ same c.args.narrow.now c.args.wide.now
