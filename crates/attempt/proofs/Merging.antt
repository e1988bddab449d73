-- What `merge` leaves in the state: the loop over the rows, and what it means for a board.
--     picks-..  what a row holds, by the marks of its claims
--     Done      the loop's invariant: the rows below r are done, and the others are as they were
--     merged    the state that `merge` leaves is the state with the spread of the marked claims merged in
-- Assumes nothing.
use mathlib.Core.Path.{◌≡◌, refl, ◌∙◌, subst}
use mathlib.Core.Bool.{Bool, true, false}
use mathlib.Core.List.{List}
use mathlib.Core.Logic.{◌⊎◌, inl, inr}
use Prim.Native.Nat.{ℕ, ◌≤◌, ◌<◌}
use native.Mathlib.Omega.{arith}
use borrow.Author.Tests.{lt-ltb, eq-eqb, ne_eqb}
use lib.Dec.{eqb}
use lib.ListN.{length, get_or}
use Rattle.board.specs.Board.{rows, row, claim, opposite}
use Rattle.board.specs.Tables.{held, True}
use Rattle.board.proofs.Claims.{claim-cases, opposite-zero}
use Rattle.theory.specs.Solve.{Good, Merged}
use Rattle.grid.specs.Grid.{claims, grid_board}
use Rattle.grid.specs.Grid.{Grid}
use Rattle.scan.specs.Reach.{Store, mark, marked}
use Rattle.attempt.specs.Merge.{settled, MergedBy}

-- ---- one row

pub picks-0 : (x y z : ℕ) → x ≡ 1 → 0 ≡ settled x y z
picks-0 x y z e = rw (eq-eqb x 1 e)

pub picks-1 : (x y z : ℕ) → (x ≡ 1 → ⊥) → y ≡ 1 → 1 ≡ settled x y z
picks-1 x y z n e = rw (ne_eqb x 1 n, eq-eqb y 1 e)

pub picks-old : (x y z : ℕ) → (x ≡ 1 → ⊥) → (y ≡ 1 → ⊥) → z ≡ settled x y z
picks-old x y z n m = rw (ne_eqb x 1 n, ne_eqb y 1 m)

-- ---- the loop

pub record Done (m s₀ s : List ℕ) (r : ℕ) : Type 0 where
  pub upto : r ≤ length s₀
  pub long : length s ≡ length s₀
  pub done : (i : ℕ) → i < r → get_or s i 0 ≡ settled (get_or m (claim i 0) 0) (get_or m (claim i 1) 0) (get_or s₀ i 0)
  pub rest : (i : ℕ) → r ≤ i → get_or s i 0 ≡ get_or s₀ i 0

-- ---- what it means for a board

is-marked : (g : Grid) (s : Store) (c : ℕ) → c < claims g → eqb (mark s c) 1 ≡ marked g s c
unfolding marked
is-marked g s c h = rw (lt-ltb c (claims g) h)

module _ (g : Grid) (s : Store) {S S' : List ℕ} (size : length S ≡ rows (grid_board g)) (good : Good (marked g s)) (by : MergedBy s.reached S S') where
  kept : (r : ℕ) → r < rows (grid_board g) → marked g s (claim r 0) ≡ false → marked g s (claim r 1) ≡ false → held S' r ≡ held S r
  kept r h x y =
      by.rows r (omega arith)
      ∙ rw (is-marked g s (claim r 0) (omega arith) ∙ x, is-marked g s (claim r 1) (omega arith) ∙ y)

  zero : (r : ℕ) → r < rows (grid_board g) → marked g s (claim r 0) ≡ true → held S' r ≡ 0
  zero r h x = by.rows r (omega arith) ∙ rw (is-marked g s (claim r 0) (omega arith) ∙ x)

  one : (r : ℕ) → r < rows (grid_board g) → (b : Bool) → marked g s (claim r 0) ≡ b → marked g s (claim r 1) ≡ true → held S' r ≡ 1
  one r h true x y = absurd (good (claim r 0) x (rw (opposite-zero r) y))
  one r h false x y =
      by.rows r (omega arith)
      ∙ rw (is-marked g s (claim r 0) (omega arith) ∙ x, is-marked g s (claim r 1) (omega arith) ∙ y)

  taken : (L : ℕ) → row L < rows (grid_board g) → marked g s L ≡ true → True S' L
  taken L h i = go (claim-cases L)
    where
      go : ((L ≡ claim (row L) 0) × (opposite L ≡ claim (row L) 1)) ⊎ ((L ≡ claim (row L) 1) × (opposite L ≡ claim (row L) 0)) → True S' L
      go (inl t) =
          let x : marked g s (claim (row L) 0) ≡ true = subst (λ (K : ℕ). marked g s K ≡ true) t.0 i in
          let z : held S' (row L) ≡ 0 = zero (row L) h x in
          omega (arith, z, t.0)
      go (inr t) =
          let x : marked g s (claim (row L) 1) ≡ true = subst (λ (K : ℕ). marked g s K ≡ true) t.0 i in
          let z : held S' (row L) ≡ 1 = one (row L) h (marked g s (claim (row L) 0)) refl x in
          omega (arith, z, t.0)

  pub merged : Merged (grid_board g) (marked g s) S S'
  merged = record { long = by.long ∙ size; taken = taken; kept = kept }
