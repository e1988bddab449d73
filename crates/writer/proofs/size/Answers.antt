-- `writer::size` meets its contract: a set has as many entries as its mask has ones. Assumes nothing.
use mathlib.Core.Path.{sym}
use Rattle.writer.proofs.Sets.{members-length}
use Rattle.writer.proofs.size.Goals as goal

pub returns-clause-value : goal.returns-clause-value
returns-clause-value c = sym (members-length 32 0 c.args.set c.ranges.set.fits)
