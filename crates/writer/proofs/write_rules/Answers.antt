-- `writer::write_rules` meets its contract, by its invariant. Assumes nothing.
use lib.ListN.{get_or}
use Rattle.answer.proofs.Pieces.{left_room, left_turn, left_done}
use Rattle.writer.specs.JobWritten.{members, counted}
use Rattle.writer.proofs.Stores.{rules-next, rules-none}
use Rattle.writer.proofs.write_rules.Goals as goal

pub write_set-requires : goal.write_set-requires
write_set-requires c = left_room c.loop-rule.invariant (counted (members (get_or c.args.rules.now c.loop-rule.rule-index 0))) _ (rules-next _ _ c.loop-rule-test.true) c.requires

pub loop-rule-preserved : goal.loop-rule-preserved
loop-rule-preserved c = left_turn c.loop-rule.invariant _ _ (rules-next _ _ c.loop-rule-test.true) c.write_set.ensures

pub returns : goal.returns
returns c = left_done c.loop-rule.invariant (rules-none _ _ c.loop-rule-test.false)
