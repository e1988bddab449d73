-- `grid::unpack` meets its contract, by its invariant. Assumes nothing.
use mathlib.Core.Path.{◌≡◌, ap, ◌∙◌}
use mathlib.Core.List.{List}
use Prim.Native.Nat.{ℕ, ◌+◌, ◌*◌, ◌/◌, ◌%◌, ◌^◌, ◌<◌}
use native.Mathlib.Omega.{arith}
use lib.ListN.{get_or}
use Rattle.faults.specs.Table.{bit as digit}
use Rattle.grid.specs.Grid.{bit}
use Rattle.grid.proofs.Fours.{four-at}
use Rattle.grid.proofs.unpack.Goals as goal

-- the four digits of the combination a
abbrev cut : List ℕ → ℕ → ℕ
cut table a = get_or table (a / 16) 0 / 2 ^ (4 * (a % 16)) % 16

cut_bit : (table : List ℕ) (a x y : ℕ) → x < 2 → y < 2 → bit (cut table a) (2 * x + y) ≡ digit table a x y
unfolding bit
cut_bit table a x y hx hy =
    four-at (get_or table (a / 16) 0) (4 * (a % 16)) (2 * x + y) (omega arith)
    ∙ ap (λ (k : ℕ). get_or table (a / 16) 0 / 2 ^ k % 2) (omega arith)

pub returns : goal.returns
returns c = record {
  long = c.loop-a.auto.faults;
  small = λ a l. omega (arith, c.loop-a.invariant a (omega arith));
  bits = λ a x y l hx hy. ap (λ (f : ℕ). bit f (2 * x + y)) (c.loop-a.invariant a (omega arith)) ∙ cut_bit c.args.words.now a x y hx hy;
}
