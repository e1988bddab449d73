-- `steps::read_word` meets its contract: each byte that was found is one of the sheet, so the sum fits. Assumes nothing.
use Rattle.std.proofs.Common.{rules}
use native.Mathlib.Omega.{arith}
use Rattle.steps.proofs.Steps.{found, stop, go_on}
use Rattle.steps.specs.Bytes.{word}
use Rattle.steps.proofs.Entries.{byte-is}
use Rattle.steps.proofs.read_word.Goals as goal

pub returns-in_err-low : goal.returns-in_err-low
unfolding word
returns-in_err-low c = rw (stop _ _ _ _ c.read_byte.ensures c.in_err-low.was) (search rules)

pub returns-in_err-high : goal.returns-in_err-high
unfolding word
returns-in_err-high c = rw (go_on _ _ _ _ _ c.read_byte.ensures c.in_ok-low.was, stop _ _ _ _ c.read_byte-2.ensures c.in_err-high.was) (search rules)

pub overflow_mul-result : goal.overflow_mul-result
overflow_mul-result c = let is = byte-is _ _ _ _ (found _ _ _ _ c.read_byte-2.ensures c.in_ok-high.was) in
    omega (arith, c.type_inv.sheet c.in_ok-low.middle)

pub overflow_add-result : goal.overflow_add-result
overflow_add-result c = let is₁ = byte-is _ _ _ _ (found _ _ _ _ c.read_byte.ensures c.in_ok-low.was) in
    let is₂ = byte-is _ _ _ _ (found _ _ _ _ c.read_byte-2.ensures c.in_ok-high.was) in
    omega (arith, c.type_inv.sheet c.args.at, c.type_inv.sheet c.in_ok-low.middle)

pub returns : goal.returns
unfolding word
returns c = rw (go_on _ _ _ _ _ c.read_byte.ensures c.in_ok-low.was, go_on _ _ _ _ _ c.read_byte-2.ensures c.in_ok-high.was)
