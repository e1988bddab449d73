-- `faults::clear` meets its contract. Assumes nothing.
use mathlib.Core.Path.{◌≡◌, ap, ◌∙◌}
use mathlib.Core.List.{List, ◌++◌}
use Prim.Native.Nat.{ℕ, ◌≤◌}
use native.Mathlib.Omega.{arith}
use lib.ListN.{length, get_or, take, drop, replicate, length-append, length-drop, get_or-append}
use lib.Seq.{length-take-le}
use Rattle.std.proofs.lemmas.List.{get_or-replicate, length-replicate}
use Rattle.faults.specs.Table.{Cleared}
use Rattle.faults.proofs.clear.Goals as goal

cleared : (end : ℕ) (s u : List ℕ) → end ≤ length s → u ≡ replicate (length (take end s)) 0 → Cleared end s (u ++ drop end s)
cleared end s u l e = record {
  size = omega (arith, front, length-append u (drop end s), length-drop end s);
  each = λ w h.
      get_or-append u (drop end s) 0 w (omega (arith, front))
      ∙ ap (λ (x : List ℕ). get_or x w 0) e
      ∙ get_or-replicate _ w 0 0 (omega (arith, length-take-le end s l));
}
  where
    front : length u ≡ end
    front = ap length e ∙ length-replicate _ 0 ∙ length-take-le end s l

pub returns : goal.returns
returns c = cleared _ c.args.words.now _ c.requires (c.fill.ensures.after (λ y e. e))
