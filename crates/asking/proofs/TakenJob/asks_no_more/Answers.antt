-- `asking::TakenJob::asks_no_more` meets its contract: the answer is the test of the two jobs, part by part. Assumes nothing.
use Rattle.std.proofs.Common.{◌≡◌, ℕ, Bool, ◌&&◌, eqb, List, refl, ◌∙◌, ap₂}
use Rattle.std.specs.Cmp.Lexicographic.{pointwise}
use Rattle.std.proofs.lemmas.Slice.Eq.{slice_eq-Decides}
use Rattle.std.proofs.lemmas.Bool.Decides.{Decides-eqb, same_from_decides}
use Rattle.wires.specs.Terms.{containsb}
use Rattle.asking.specs.Asks.{same_pins, all_within}
use Rattle.asking.proofs.Asking.{pins_decide}
use Rattle.asking.specs.Taken.{rules}
use Rattle.asking.proofs.Asked.{and_then, and_else, asks_by}
use Rattle.asking.proofs.TakenJob.asks_no_more.Goals as goal
use Rattle.asking.proofs.TakenJob.asks_no_more.Goals.{then-eq, else-eq, then-contains, else-contains, then-contains-2, else-contains-2}

-- what `==` told of the pins
alike : {xs ys us vs : List ℕ} {r : Bool} → r ≡ pointwise eqb xs ys → xs ≡ us → ys ≡ vs → r ≡ same_pins us vs
alike e x y = same_from_decides _ _ (slice_eq-Decides Decides-eqb _ _ _ e) (pins_decide _ _) ∙ ap₂ same_pins x y

pub returns-then-all_within : goal.returns-then-all_within
returns-then-all_within c =
    let q = c.args.self.now in
    let p = c.args.other.now in
    let same = alike c.eq.ensures c.pins.ensures c.pins-2.ensures in
    let by_a : c.if-eq.value ≡ c.eq.result && containsb q.head.sees_a p.head.sees_a = elim c.if-eq.branch [ then-eq w ↦ and_then w.if-eq.true w.value-is w.contains.ensures | else-eq w ↦ and_else _ w.if-eq.false w.value-is ] in
    let by_b : c.if-contains.value ≡ c.if-eq.value && containsb q.head.sees_b p.head.sees_b = elim c.if-contains.branch [ then-contains w ↦ and_then w.if-contains.true w.value-is w.contains-then-contains.ensures | else-contains w ↦ and_else _ w.if-contains.false w.value-is ] in
    let by_rules : c.if-contains-2.value ≡ c.if-contains.value && all_within (rules p) (rules q) = elim c.if-contains-2.branch [ then-contains-2 w ↦ and_then w.if-contains-2.true w.value-is (w.all_within.ensures ∙ ap₂ all_within w.rules.ensures w.rules-then-contains-2.ensures) | else-contains-2 w ↦ and_else _ w.if-contains-2.false w.value-is ] in
    λ P Q p_is q_is. asks_by p q P Q p_is q_is _ _ _ _ _ same by_a by_b by_rules (and_then c.if-all_within.true refl (c.all_within-then-all_within.ensures ∙ ap₂ all_within c.excuses.ensures c.excuses-then-all_within.ensures))

pub returns-else-all_within : goal.returns-else-all_within
returns-else-all_within c =
    let q = c.args.self.now in
    let p = c.args.other.now in
    let same = alike c.eq.ensures c.pins.ensures c.pins-2.ensures in
    let by_a : c.if-eq.value ≡ c.eq.result && containsb q.head.sees_a p.head.sees_a = elim c.if-eq.branch [ then-eq w ↦ and_then w.if-eq.true w.value-is w.contains.ensures | else-eq w ↦ and_else _ w.if-eq.false w.value-is ] in
    let by_b : c.if-contains.value ≡ c.if-eq.value && containsb q.head.sees_b p.head.sees_b = elim c.if-contains.branch [ then-contains w ↦ and_then w.if-contains.true w.value-is w.contains-then-contains.ensures | else-contains w ↦ and_else _ w.if-contains.false w.value-is ] in
    let by_rules : c.if-contains-2.value ≡ c.if-contains.value && all_within (rules p) (rules q) = elim c.if-contains-2.branch [ then-contains-2 w ↦ and_then w.if-contains-2.true w.value-is (w.all_within.ensures ∙ ap₂ all_within w.rules.ensures w.rules-then-contains-2.ensures) | else-contains-2 w ↦ and_else _ w.if-contains-2.false w.value-is ] in
    λ P Q p_is q_is. asks_by p q P Q p_is q_is _ _ _ _ _ same by_a by_b by_rules (and_else _ c.if-all_within.false refl)
