-- `writer::judge_pins` meets its contract. The invariant: the whole is what is left of the pins, from here on. Assumes nothing.
use mathlib.Core.Path.{◌≡◌}
use Prim.Native.Nat.{◌≤◌}
use lib.ListN.{drop}
use Rattle.writer.specs.Writing.{pins_rise, judge_pins}
use Rattle.writer.proofs.judge_pins.Given as goal

abbrev pub invariant-loop-i : goal.invariant-loop-i
invariant-loop-i l = (l.least ≤ 256) × (judge_pins l.pins ≡ pins_rise l.least l.i (drop l.i l.pins))
