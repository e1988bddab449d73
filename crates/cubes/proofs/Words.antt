-- A pattern added to blocks of the table, one after the other from the last. Assumes nothing.
use mathlib.Core.Path.{◌≡◌, refl, sym, ap, subst, ◌∙◌}
use mathlib.Core.Logic.{by_cases}
use mathlib.Core.List.{List}
use Prim.Native.Nat.{ℕ, ◌+◌, ◌-◌, ◌*◌, ◌<◌, ◌≤◌}
use native.Mathlib.Decide.{dec_lt, ℕ_discrete}
use native.Mathlib.Omega.{arith}
use lib.Bits.{bit_and, bit_or, and_le_l}
use lib.ListN.{get_or}
use Rattle.wires.specs.Wires.{wire}
use Rattle.cubes.specs.Cubes.{Part, Added, Ored}
use Rattle.cubes.proofs.Parts.{part_le, step_down}

module _ (base free pattern rows : ℕ) (s : List ℕ) where
  pub none_yet : Ored base free pattern rows (free + 1) s s
  none_yet = record { size = refl; done = λ d h l. absurd (omega (arith, part_le d free h)); kept = λ v h. refl }

  module _ (t r : List ℕ) (sub : ℕ) (part : Part sub free) (o : Ored base free pattern rows (sub + 1) s t) (a : Added (4 * (base + sub)) pattern rows 4 t r) where
    -- the block was as it was at first
    fresh : (j : ℕ) → j < 4 → get_or t (4 * (base + sub) + j) 0 ≡ get_or s (4 * (base + sub) + j) 0
    fresh j l = o.kept (4 * (base + sub) + j) (λ d h k e. omega arith)

    store : Ored base free pattern rows sub s r
    store = record {
      size = a.size ∙ o.size;
      done = λ d h l j k.
          by_cases (ℕ_discrete d sub)
          (λ e. subst (λ (x : ℕ). get_or r (4 * (base + x) + j) 0 ≡ bit_or (get_or s (4 * (base + x) + j) 0) (pattern * wire rows j)) (sym e)
          (a.done j k ∙ ap (λ (x : ℕ). bit_or x (pattern * wire rows j)) (fresh j k)))
          (λ n. a.kept (4 * (base + d) + j) (λ i m e. n (omega arith)) ∙ o.done d h (omega arith) j k);
      kept = λ v h. a.kept v (λ i m e. h sub part (omega arith) (omega arith)) ∙ o.kept v (λ d hd l. h d hd (omega arith));
    }

    -- between sub and the next part below it there is none
    pub next : 0 < sub → Ored base free pattern rows (bit_and (sub - 1) free + 1) s r
    next some = record {
      size = store.size;
      done = λ d h l. store.done d h (above d h l);
      kept = λ v h. store.kept v (λ d hd l. h d hd (omega (arith, and_le_l (sub - 1) free)));
    }
      where
        above : (d : ℕ) → Part d free → bit_and (sub - 1) free + 1 ≤ d → sub ≤ d
        above d h l = by_cases (dec_lt d sub) (λ b. absurd (omega (arith, step_down sub free d part h b))) (λ g. omega arith)

    pub last : sub ≡ 0 → Ored base free pattern rows 0 s r
    last e = subst (λ (k : ℕ). Ored base free pattern rows k s r) e store
