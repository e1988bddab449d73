-- `writer::rules_length` meets its contract: the sum goes over the rules. Assumes nothing.
use mathlib.Core.Path.{◌≡◌, ◌∙◌}
use Prim.Native.Nat.{◌+◌}
use lib.ListN.{length}
use borrow.Author.Rules.{rules}
use Rattle.std.specs.List.{sum_by}
use Rattle.writer.specs.JobWritten.{members}
use Rattle.writer.proofs.Stores.{rules-sum}
use Rattle.writer.proofs.rules_length.Goals as goal

pub returns : goal.returns
returns c = let total : c.sum.result ≡ sum_by (λ r. 1 + length (members r)) c.args.rules.now = search rules in total ∙ rules-sum _
