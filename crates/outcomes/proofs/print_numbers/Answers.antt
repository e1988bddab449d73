-- `outcomes::print_numbers` prints as much of the line as was written, which is inside it. Assumes nothing.
use Rattle.std.proofs.Common.{sym, length-take-le}
use Rattle.text.proofs.Numbered.{numbered-fits}
use Rattle.outcomes.proofs.print_numbers.Goals as goal

pub slice_bounds-line-end : goal.slice_bounds-line-end
slice_bounds-line-end g c = numbered-fits c.args.o _ c.numbers-printed.ensures

pub slice_bounds-write_all-end : goal.slice_bounds-write_all-end
slice_bounds-write_all-end g c = sym (length-take-le _ _ (numbered-fits c.args.o _ c.numbers-printed.ensures))
