-- `sheet::read_set` meets its contract. The invariant: the bits so far are below `least`, and the whole is the bits so far and those of what is left, from here on (`mask_from`). Assumes nothing.
use Rattle.std.proofs.Common.{◌≡◌, ◌-◌, ◌^◌, ◌≤◌, ◌<◌}
use Rattle.sheet.specs.JobSheet.{mask}
use Rattle.sheet.proofs.Masks.{mask_from}
use Rattle.sheet.proofs.read_set.Given as goal

abbrev pub invariant-loop : goal.invariant-loop
invariant-loop l =
    (l.least ≤ 32) × (l.bits < 2 ^ l.least) × (mask l.count l.limit l.sheet l.at ≡ mask_from (l.count - l.counter) l.limit l.least l.bits l.sheet l.place)
