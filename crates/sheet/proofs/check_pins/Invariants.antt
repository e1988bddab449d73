-- `sheet::check_pins` meets its contract. The invariant: the whole is what is left of the pins, from here on. Assumes nothing.
use Rattle.std.proofs.Common.{◌≡◌, ◌-◌, ◌≤◌}
use Rattle.steps.specs.Step.{next, got}
use Rattle.steps.specs.Bytes.{entries}
use Rattle.sheet.specs.JobSheet.{pin_limit}
use Rattle.sheet.specs.JobFound.{pins_pass}
use Rattle.sheet.proofs.check_pins.Given as goal

abbrev pub invariant-loop : goal.invariant-loop
invariant-loop l =
    (l.least ≤ 256) × (pins_pass l.count l.sheet l.at ≡ next (entries (l.count - l.counter) pin_limit l.least l.sheet l.place) (λ es a. got l.count a))
