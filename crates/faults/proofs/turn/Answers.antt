-- `faults::turn` meets its contract, by its invariant. Assumes nothing.
use mathlib.Core.Path.{◌≡◌, ap, ◌∙◌}
use mathlib.Core.List.{List, ◌++◌}
use Prim.Native.Nat.{ℕ, ◌-◌, ◌^◌, ◌≤◌, ◌<◌}
use Rattle.std.proofs.Common.{arith, rules}
use lib.ListN.{length, get_or, take, drop, length-append, length-drop, get_or-append}
use lib.Seq.{length-take-le, get_or-take}
use Rattle.wires.specs.Wires.{wire}
use Rattle.wires.proofs.Digits.{wire-not}
use Rattle.faults.specs.Table.{Turned}
use Rattle.faults.proofs.turn.Goals as goal

-- the words of s, with u in the place of those below `end`
turned : (end : ℕ) (s u : List ℕ) → end ≤ length s → ((i : ℕ) → get_or s i 0 < 2 ^ 64) → length u ≡ length (take end s)
    → ((w : ℕ) → w < end → get_or u w 0 ≡ 2 ^ 64 - 1 - get_or (take end s) w 0) → Turned end s (u ++ drop end s)
turned end s u l fits e not = record {
  size = omega (arith, e, front, length-append u (drop end s), length-drop end s);
  each = λ w p h lp.
      ap (λ (x : ℕ). wire x p)
      (get_or-append u (drop end s) 0 w (omega (arith, e, front)) ∙ not w h ∙ ap (λ (x : ℕ). 2 ^ 64 - 1 - x) (get_or-take end s w 0 h))
      ∙ wire-not 64 (get_or s w 0) p (fits w) lp;
}
  where
    front : length (take end s) ≡ end
    front = length-take-le end s l

pub returns : goal.returns
returns c =
    let front = length-take-le c.args.end c.args.words.now c.requires in
    turned _ c.args.words.now _ c.requires (search rules) c.loop-word.auto.word-items (λ w h. c.loop-word.invariant.turned w (omega arith))
