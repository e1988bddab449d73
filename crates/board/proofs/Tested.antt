-- What the test of one combination tells.
--     tested-broken     a rule exactly where some rule is broken
--     tested-rule       and then the lowest
-- Assumes nothing.
use mathlib.Core.Path.{◌≡◌}
use mathlib.Core.Bool.{true}
use Prim.Native.Nat.{ℕ}
use native.Mathlib.Omega.{arith}
use Rattle.std.specs.Prelude.{is_some}
use Rattle.board.specs.Board.{Board}
use Rattle.board.specs.Tested.{tested, rule_of}

module _ (B : Board) (a x y : ℕ) where
  pub tested-broken : is_some (tested B a x y) ≡ B.breaks a x y
  tested-broken = grind arith

  pub tested-rule : B.breaks a x y ≡ true → rule_of (tested B a x y) ≡ B.rule a x y
  tested-rule e = rw e
