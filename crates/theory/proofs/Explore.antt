-- There is a spread from every claim: add what a step leads to until no step leads out.
-- Assumes nothing.
use mathlib.Core.Path.{◌≡◌, refl}
use Prim.Native.Nat.{ℕ, zero, suc, ◌+◌, ◌*◌, ◌<◌}
use native.Mathlib.Decide.{ℕ_discrete}
use native.Mathlib.Omega.{arith}
use Rattle.board.specs.Board.{Board, Shows, rows, row}
use Rattle.board.specs.Walk.{Step}
use Rattle.theory.specs.Solve.{Explored}
use Rattle.theory.specs.Trail.{Has, Trail, Whole}
use mathlib.Core.Logic.Dec.{and as dec_and, not as dec_not}
use Rattle.board.proofs.Finite.{dec-below, put, test, test-yes, yes-test}
use Rattle.board.proofs.Steps.{dec-step, step-to, step-combination}
use Rattle.theory.proofs.Trail.{trail-puts, trail-fits, trail-explored}

has? : (n : ℕ) (at : ℕ → ℕ) (M : ℕ) → Dec (Has n at M)
has? n at M = dec-below (λ i. at i ≡ M) (λ i. ℕ_discrete (at i) M) n

module _ (B : Board) where
  -- a step that leads out
  abbrev Escape : ℕ → (ℕ → ℕ) → Type 0
  Escape n at = (i : ℕ) × (i < n) × ((a : ℕ) × (a < B.combinations) × ((M : ℕ) × (M < 2 * rows B) × (Step B (at i) M a × (¬ Has n at M))))

  escape? : (n : ℕ) (at : ℕ → ℕ) → Dec (Escape n at)
  escape? n at =
      dec-below (λ i. (a : ℕ) × (a < B.combinations) × ((M : ℕ) × (M < 2 * rows B) × (Step B (at i) M a × (¬ Has n at M))))
      (λ i. dec-below (λ a. (M : ℕ) × (M < 2 * rows B) × (Step B (at i) M a × (¬ Has n at M)))
      (λ a. dec-below (λ M. Step B (at i) M a × (¬ Has n at M)) (λ M. dec_and (dec-step B (at i) M a) (dec_not (has? n at M))) (2 * rows B))
      B.combinations)
      n

  no-escape : Shows B → (n : ℕ) (at : ℕ → ℕ) → ¬ Escape n at → Whole B n at
  no-escape ok n at none i M a h st = go (has? n at M)
    where
      go : Dec (Has n at M) → Has n at M
      go (yes p) = p
      go (no np) = absurd (none (i, h, (a, step-combination B st, (M, omega (arith, step-to B ok st), (st, np)))))

  module _ (c : ℕ) (ok : Shows B) (inside : row c < rows B) where
    -- k places are left
    explore-from : (k n : ℕ) (at parent by : ℕ → ℕ) → n + k ≡ suc (2 * rows B) → Trail B c n at parent by → Explored B c
    explore-from zero n at parent by e t = absurd (omega (arith, trail-fits B c n at parent by t ok inside))
    explore-from (suc k) n at parent by e t = go (escape? n at) (explore-from k (suc n))
      where
        go : Dec (Escape n at) → ((at' parent' by' : ℕ → ℕ) → suc n + k ≡ suc (2 * rows B) → Trail B c (suc n) at' parent' by' → Explored B c) → Explored B c
        go (yes x) more =
            let M = x.2.2.0 in
            let i = x.0 in
            let a = x.2.0 in
            more (put n M at) (put n i parent) (put n a by) (omega arith) (trail-puts B c n at parent by t i M a x.1 x.2.2.2.0 x.2.2.2.1)
        go (no none) more =
            trail-explored B c n at parent by t ok inside (λ L. test (has? n at L)) (λ L. (yes-test (has? n at L), test-yes (has? n at L)))
            (no-escape ok n at none)

    -- the spread from c, and whether it is good
    pub explore : Explored B c
    explore =
        explore-from (2 * rows B) 1 (λ i. c) (λ i. 0) (λ i. 0) (omega arith)
        (record { some = omega arith; first = refl; earlier = λ i h l. absurd (omega arith); steps = λ i h l. absurd (omega arith); distinct = λ i j h l. absurd (omega arith) })
