-- `writer::write_rules` meets its contract. The invariant: the rules are written but for those from the index on. Assumes nothing.
use lib.ListN.{drop}
use Rattle.answer.proofs.Pieces.{Left}
use Rattle.writer.specs.JobWritten.{rules_bytes}
use Rattle.writer.proofs.write_rules.Given as goal

abbrev pub invariant-loop-rule : goal.invariant-loop-rule
invariant-loop-rule l = Left l.initial.page (rules_bytes l.rules) l.page (rules_bytes (drop l.rule-index l.rules))
