-- `writer::Description::sheet_length` meets its contract: the sections, one after another. Assumes nothing.
use native.Mathlib.Omega.{arith}
use Rattle.writer.proofs.Stores.{rules-short, described-long}
use Rattle.writer.proofs.Description.sheet_length.Goals as goal

pub overflow_add-result-4 : goal.overflow_add-result-4
overflow_add-result-4 c =
    let limits = rw (← c.self.view_is) at c.requires in
    omega (arith, rules-short c.self.inside.rules.now)

pub returns : goal.returns
returns c = omega (arith, described-long _ _ _ _ _ c.self.view_is)
