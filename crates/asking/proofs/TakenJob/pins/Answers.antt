-- `asking::TakenJob::pins` meets its contract: the pins stand in the sheet. Assumes nothing.
use Rattle.asking.proofs.Asked.{pins_in}
use Rattle.asking.proofs.TakenJob.pins.Goals as goal

pub slice_bounds-result-end : goal.slice_bounds-result-end
slice_bounds-result-end c = pins_in c.args.self.now
