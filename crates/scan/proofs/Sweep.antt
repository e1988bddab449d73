-- The loop of `looks`: what it has done when it comes to combination b.
-- Assumes nothing.
use Rattle.std.proofs.Common.{◌≡◌, ℕ, zero, suc, ◌+◌, ◌-◌, ◌<◌, ◌≤◌, sym, subst, add-zero, arith, below_none, below_more}
use Rattle.grid.specs.Grid.{Grid, Sound}
use Rattle.scan.specs.Steps.{ShowsRow, aim_of}
use Rattle.scan.specs.Reach.{Store, Reach, Grown, Found, Looked, Visited, Asks, Swept}
use Rattle.scan.specs.Reach.Visited.{begin, look, pass}
use Rattle.scan.proofs.Aims.{step-within, step-shown}
use Rattle.scan.proofs.Laws.{grown-refl, grown-trans}
use Rattle.scan.proofs.Looked.{Turn, turn-grown, turn-found}

-- from the store s with its end at `tail`, the combinations before b that show the row have been looked at
pub record Sweep (g : Grid) (s : Store) (tail l : ℕ) (t : Store) (last b : ℕ) : Type 0 where
  pub visited : Visited g l s tail b t last
  pub grown : Grown g s tail t last
  pub found : (k : ℕ) → k < b → Found g t l k

module _ {g : Grid} {s : Store} {tail l : ℕ} where
  pub sweep-start : Reach g s tail → Sweep g s tail l s tail 0
  sweep-start h = record { visited = begin; grown = grown-refl h; found = below_none (λ (k : ℕ). Found g s l k) }

  module _ {t : Store} {last b : ℕ} (w : Sweep g s tail l t last b) where
    pub sweep-ask : Sound g → Asks g s tail l → b < g.shape.combinations → ShowsRow g l b → Turn g t last l b
    sweep-ask ok q n z = record { sound = ok; reach = w.grown.reach; known = w.grown.still l q.known; within = n; shows = z }

    pub sweep-look : {u : Store} {end : ℕ} → Turn g t last l b → Looked (aim_of g l) t last l b u end → Sweep g s tail l u end (b + 1)
    sweep-look {u} k q = record {
      visited = look w.visited k.shows q;
      grown = grown-trans w.grown (turn-grown k q);
      found = below_more (λ (k : ℕ). Found g u l k) b (λ i z m e. (turn-grown k q).still m (w.found i z m e)) (turn-found k q);
    }

    sweep-pass : (ShowsRow g l b → ⊥) → Sweep g s tail l t last (b + 1)
    sweep-pass z = record {
      visited = pass w.visited z;
      grown = w.grown;
      found = below_more (λ (k : ℕ). Found g t l k) b w.found (λ m e. absurd (z (step-shown e)));
    }

  pub sweep-done : {t : Store} {last : ℕ} → Sweep g s tail l t last g.shape.combinations → Swept g s tail l t last
  sweep-done w = record { visited = w.visited; grown = w.grown; found = λ k m e. w.found k (step-within e) m e }

  -- the d combinations from b on do not show the row; and those from b on to c
  sweep-on : {t : Store} {last b : ℕ} (d : ℕ) → ((a : ℕ) → b ≤ a → a < b + d → ShowsRow g l a → ⊥) → Sweep g s tail l t last b → Sweep g s tail l t last (b + d)
  sweep-on {t} {last} {b} zero h w = subst (Sweep g s tail l t last) (sym (add-zero b)) w
  sweep-on {t} {last} {b} (suc d) h w =
      subst (Sweep g s tail l t last) (step b d)
      (sweep-pass (sweep-on {b = b} d (λ a p q. h a p (omega arith)) w) (h (b + d) (omega arith) (omega arith)))
    where
      step : (b d : ℕ) → b + d + 1 ≡ b + suc d
      step b d = omega arith

  pub sweep-to : {t : Store} {last b c : ℕ} → b ≤ c → ((a : ℕ) → b ≤ a → a < c → ShowsRow g l a → ⊥) → Sweep g s tail l t last b → Sweep g s tail l t last c
  sweep-to {t} {last} {b} {c} n h w = subst (Sweep g s tail l t last) sum (sweep-on {b = b} (c - b) (λ a p q. h a p (omega arith)) w)
    where
      sum : b + (c - b) ≡ c
      sum = omega arith
