-- `text::write_decimal` meets its contract: its digits are the standard library's. Assumes nothing.
use Rattle.std.proofs.Common.{arith, ◌∙◌, sym}
use Rattle.text.proofs.Decimals.{decimal-is}
use Rattle.text.proofs.write_decimal.Goals as goal

pub write-requires : goal.write-requires
write-requires c = rw (c.as_bytes.ensures.value ∙ c.format.ensures.text ∙ sym (decimal-is c.args.n (omega arith))) c.requires

pub returns : goal.returns
returns c = rw (decimal-is c.args.n (omega arith) ∙ sym (c.as_bytes.ensures.value ∙ c.format.ensures.text)) c.write.ensures
