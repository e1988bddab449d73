-- The test of one combination (document 02, request 4).
--     tested      what it tells: the lowest-numbered rule that is broken, from 0, or that none is
--     rule_of     for each of its cases, the number that an outcome carries
-- Assumes nothing: these are definitions.
use Rattle.std.specs.Prelude.{Option, Some, None, ℕ}
use Rattle.steps.specs.Step.{pick}
use Rattle.board.specs.Board.{Board}

-- with the combination a, cell A at x and cell B at y
abbrev pub tested : Board → (a x y : ℕ) → Option ℕ
tested B a x y = pick (B.breaks a x y) (Some (B.rule a x y)) None

-- that rule, from 0; 0 where none is broken
abbrev pub rule_of : Option ℕ → ℕ
rule_of (Some i) = i
rule_of None = 0
