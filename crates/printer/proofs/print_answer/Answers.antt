-- `printer::print_answer`: the text of the bytes that were read is what the buffer for it holds in front. Assumes nothing.
use Rattle.std.proofs.Common.{arith, ◌∙◌}
use Rattle.std.proofs.lemmas.List.{length-replicate}
use Rattle.std.proofs.lemmas.Result.{on_ok_weaker}
use Rattle.printer.proofs.Answering.{answering}
use Rattle.printer.proofs.print_answer.Goals as goal

pub returns-clause-answered : goal.returns-clause-answered
returns-clause-answered g c = on_ok_weaker _ (answering c.read_full.new.buf c.in_ok-length.length (c.read_full.auto.buf ∙ length-replicate _ _) c.in_ok-length.ensures.within.0 c.in_ok-length.ensures.bytes c.in_ok-length.ensures.end (omega arith) c.text-printed.ensures) c.write_all.ensures.bytes
