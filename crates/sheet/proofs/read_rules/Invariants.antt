-- `sheet::read_rules` meets its contract. The invariant: the whole is what is left of the rules, from here on, and the lent array at the end is the array as it stands with what is left stored from here on. Assumes nothing.
use Rattle.std.proofs.Common.{◌≡◌, ◌-◌, length}
use Rattle.std.proofs.lemmas.List.Edits.{sets}
use Rattle.sheet.specs.JobFound.{rules_pass, kept}
use Rattle.sheet.proofs.Rules.{rules_from}
use Rattle.sheet.proofs.read_rules.Given as goal

abbrev pub invariant-loop-mask : goal.invariant-loop-mask
invariant-loop-mask l =
    (rules_pass (length l.initial.masks) l.terms l.sheet l.at ≡ rules_from (length l.initial.masks - l.mask-index) l.terms (length l.initial.masks) l.sheet l.place)
    × (sets l.initial.masks 0 (kept (length l.initial.masks) l.terms l.sheet l.at) ≡ sets l.masks l.mask-index (kept (length l.initial.masks - l.mask-index) l.terms l.sheet l.place))
