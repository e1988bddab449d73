-- `sheet::read_excuses` meets its contract: form one has none; in form two their count was refused, or found and then they. Assumes nothing.
use Rattle.std.proofs.Common.{rules, sym, arith}
use Rattle.std.proofs.lemmas.List.{length-take-le}
use Rattle.steps.proofs.Steps.{found}
use Rattle.sheet.proofs.Heads.{word-count-bounds}
use Rattle.sheet.proofs.Excuses.{excuses-one, excuses-stop, excuses-part}
use Rattle.sheet.proofs.read_excuses.Goals as goal

pub returns-in_err-count-in-Two : goal.returns-in_err-count-in-Two
returns-in_err-count-in-Two c =
    let both = excuses-stop c.args.wires c.args.sheet.now c.args.at c.args.masks.now 0 _ c.in-Two.is _ c.read_word_count.ensures _ c.in_err-count-in-Two.was in
    record { value = rw (sym both.0, c.in_err-count-in-Two.was) (search rules); masks_after = both.1 }

pub slice_bounds-read_rules-end : goal.slice_bounds-read_rules-end
slice_bounds-read_rules-end c =
    let few = word-count-bounds _ _ _ _ _ (found _ _ _ _ c.read_word_count.ensures c.in_ok-count-in-Two.was) in
    omega arith

pub slice_bounds-read_rules-end-in-Two : goal.slice_bounds-read_rules-end-in-Two
slice_bounds-read_rules-end-in-Two c =
    let few = word-count-bounds _ _ _ _ _ (found _ _ _ _ c.read_word_count.ensures c.in_ok-count-in-Two.was) in
    sym (length-take-le c.in_ok-count-in-Two.count c.args.masks.now (omega arith))

pub read_rules-requires : goal.read_rules-requires
read_rules-requires c =
    let few = word-count-bounds _ _ _ _ _ (found _ _ _ _ c.read_word_count.ensures c.in_ok-count-in-Two.was) in
    (omega (arith, length-take-le c.in_ok-count-in-Two.count c.args.masks.now (omega arith)), omega (arith, c.term_limit.ensures))

pub returns-in-One : goal.returns-in-One
returns-in-One c =
    let both = excuses-one c.args.wires c.args.sheet.now c.args.at c.args.masks.now 0 _ c.in-One.is in
    record { value = both.0; masks_after = both.1 }

pub returns-in_ok-count-in-Two : goal.returns-in_ok-count-in-Two
returns-in_ok-count-in-Two c =
    let both = excuses-part c.args.wires c.args.sheet.now c.args.at c.args.masks.now _ c.in-Two.is _ c.read_word_count.ensures _ _ c.in_ok-count-in-Two.was c.requires.1 _ c.term_limit.ensures _ _ c.read_rules.ensures.value c.read_rules.ensures.masks_after in
    record { value = both.0; masks_after = both.1 }
