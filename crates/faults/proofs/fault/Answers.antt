-- `faults::fault` meets its contract: the digit is read where it lies. Assumes nothing.
use borrow.Author.Tests.{eq-eqb, eqb-true}
use Rattle.faults.proofs.fault.Goals as goal

pub returns : goal.returns
returns c = (eqb-true _ 1, eq-eqb _ 1)
