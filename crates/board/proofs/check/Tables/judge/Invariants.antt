-- `board::check::Tables::judge` meets its contract. The loop's invariant: no combination looked at so far breaks a rule. Assumes nothing.
use Rattle.std.proofs.Common.{◌≡◌, ℕ, ◌<◌, false}
use Rattle.board.specs.Places.{fault_in}
use Rattle.board.proofs.check.Tables.judge.Given as goal

abbrev pub invariant-loop-a : goal.invariant-loop-a
invariant-loop-a l = (k : ℕ) → k < l.a → fault_in l.self.job.head l.self.job.masks.now l.self.sheet.now k ≡ false
