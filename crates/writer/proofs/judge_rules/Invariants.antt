-- `writer::judge_rules` meets its contract. The invariant: the whole is what is left of the rules, from here on. Assumes nothing.
use mathlib.Core.Path.{◌≡◌}
use lib.ListN.{drop}
use Rattle.writer.specs.Writing.{judge_each, judge_rules}
use Rattle.writer.proofs.judge_rules.Given as goal

abbrev pub invariant-loop-number : goal.invariant-loop-number
invariant-loop-number l = judge_rules l.terms l.rules ≡ judge_each l.terms l.number (drop l.number l.rules)
