-- `sheet::read_rules` meets its contract, by its invariant. Assumes nothing.
use Rattle.std.proofs.Common.{rules, ℕ, Ok, sym, ap, ◌∙◌, arith}
use Rattle.std.proofs.lemmas.List.{set-get_or}
use Rattle.steps.specs.Found.{as_read}
use Rattle.steps.proofs.Steps.{found, faulty}
use Rattle.sheet.proofs.Rules.{rules-start, rules-go, rules-stop, rules-done, kept-start, kept-go, kept-stop, kept-done}
use Rattle.sheet.proofs.read_rules.Goals as goal

pub loop-mask-init : goal.loop-mask-init
loop-mask-init c = (rules-start _ _ _ _, kept-start _ _ _ _ _ _)

pub returns-in_err-bits : goal.returns-in_err-bits
returns-in_err-bits c =
    let is = faulty _ _ _ c.read_counted_set.ensures c.in_err-bits.was in
    record {
      value = rw (c.loop-mask.invariant.0, rules-stop _ _ _ _ _ c.loop-mask-test.true _ is) (search rules);
      masks_after = set-get_or _ _ _ ∙ sym (c.loop-mask.invariant.1 ∙ kept-stop _ _ _ _ _ c.loop-mask-test.true _ _ _ is);
    }

pub loop-mask-preserved : goal.loop-mask-preserved
loop-mask-preserved c =
    let is = found _ _ _ _ c.read_counted_set.ensures c.in_ok-bits.was in
    (c.loop-mask.invariant.0 ∙ rules-go _ _ _ _ _ c.loop-mask-test.true _ _ is, c.loop-mask.invariant.1 ∙ kept-go _ _ _ _ _ c.loop-mask-test.true _ _ _ _ is)

pub returns : goal.returns
returns c =
    record {
      value = ap (λ (n : ℕ). Ok (n, c.loop-mask.place)) c.loop-mask.auto.masks ∙ ap as_read (sym (c.loop-mask.invariant.0 ∙ rules-done _ c.loop-mask.mask-index _ _ _ (omega arith)));
      masks_after = sym (c.loop-mask.invariant.1 ∙ kept-done _ c.loop-mask.mask-index _ _ _ (omega arith) _ _);
    }
