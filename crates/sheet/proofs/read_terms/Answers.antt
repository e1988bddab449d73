-- `sheet::read_terms` meets its contract: the rules were refused, or found and then the excuses. Assumes nothing.
use Rattle.std.proofs.Common.{rules, sym, arith}
use Rattle.sheet.proofs.Excuses.{terms-stop-part, terms-part}
use Rattle.sheet.proofs.read_terms.Goals as goal

pub returns-in_err-next : goal.returns-in_err-next
returns-in_err-next c =
    let both = terms-stop-part c.args.form c.args.wires c.args.count _ c.args.sheet.now c.args.at c.args.masks.now _ c.term_limit.ensures _ (omega arith) c.read_rules.ensures.value c.read_rules.ensures.masks_after _ c.in_err-next.was in
    record { value = rw (sym both.0, c.in_err-next.was) (search rules); masks_after = both.1 }

pub returns : goal.returns
returns c =
    let both = terms-part c.args.form c.args.wires c.args.count _ c.args.sheet.now c.args.at c.args.masks.now _ c.term_limit.ensures _ (omega arith) c.read_rules.ensures.value c.read_rules.ensures.masks_after _ _ c.in_ok-next.was _ _ _ c.read_excuses.ensures.value c.read_excuses.ensures.masks_after (omega arith) (omega arith) in
    record { value = both.0; masks_after = both.1 }
