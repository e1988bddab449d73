-- There is at most one first pair, and where all rows are settled the state is the first pair.
-- Assumes nothing.
use mathlib.Core.Path.{◌≡◌, ◌∙◌, sym, ap}
use mathlib.Core.List.{List}
use Prim.Native.Nat.{ℕ, zero, suc, ◌<◌, ◌≤◌}
use native.Mathlib.Decide.{ℕ_discrete, dec_le}
use native.Mathlib.Omega.{arith}
use lib.Seq.{ext_get_or}
use Rattle.board.specs.Board.{Board, Shows, rows, claim}
use Rattle.board.specs.Tables.{held, True, Tables, Pair, NotAfter, First}
use Rattle.board.specs.Walk.{Reaches}
use Rattle.theory.specs.Solve.{Cause, Settling}
use Rattle.board.proofs.Claims.{true-claim, claim-true}
use Rattle.board.proofs.Steps.{fits-iff-carries}
use Rattle.board.proofs.Walks.{reach-along}

module _ (B : Board) where
  -- two lists of which neither comes after the other agree, row by row
  agree : (T U : List ℕ) → NotAfter B T U → NotAfter B U T → (n : ℕ) → n ≤ rows B → (i : ℕ) → i < n → held T i ≡ held U i
  agree T U h k zero le i lt = absurd (omega arith)
  agree T U h k (suc n) le i lt = step (agree T U h k n (omega arith)) (ℕ_discrete i n)
    where
      step : ((j : ℕ) → j < n → held T j ≡ held U j) → Dec (i ≡ n) → held T i ≡ held U i
      step same (no ne) = same i (omega arith)
      step same (yes e) =
          let tu : held T n ≤ held U n = h n le same in
          let ut : held U n ≤ held T n = k n le (λ j lt. sym (same j lt)) in
          rw e (omega arith)

  pub first-unique : (T U : List ℕ) → First B T → First B U → T ≡ U
  first-unique T U f g =
      ext_get_or 0 T U (f.pair.tables.long ∙ sym g.pair.tables.long) λ i lt.
      agree T U (f.least U g.pair) (g.least T f.pair) (rows B) (omega arith) i (omega (arith, f.pair.tables.long))

  module _ (ok : Shows B) where
    -- in a pair that fits, what a true claim reaches is true
    pub pair-reaches : (U : List ℕ) → Pair B U → {L M : ℕ} → Reaches B L M → True U L → True U M
    pair-reaches U p r t = reach-along B (True U) ((fits-iff-carries B ok U p.tables).0 p.fits) r t

    -- a row that is settled to 1 for a cause holds 1 in each pair that fits and has the same rows below it
    pub cause-forces : (S U : List ℕ) (r : ℕ) → Cause B S r → Pair B U → ((i : ℕ) → i < r → held S i ≡ held U i) → held S r ≡ 1 → held U r ≡ 0 → ⊥
    cause-forces S U r k p same one nil = go (ℕ_discrete k.from r)
      where
        go : Dec (k.from ≡ r) → ⊥
        -- the 0 claim of the row itself reaches its 1 claim
        go (yes e) =
            let z : held U k.from ≡ 0 = ap (held U) e ∙ nil in
            let o : True U (claim k.from 1) = pair-reaches U p (k.forced (sym k.holds ∙ ap (held S) e ∙ one)) (true-claim U k.from 0 (omega arith) z) in
            omega (arith, claim-true U k.from 1 (omega arith) o)
        -- the row of the cause is below, so U holds there what S does
        go (no ne) =
            let t : True U (claim r (held S r)) = pair-reaches U p k.reaches (true-claim U k.from k.bit k.small (sym (same k.from (omega arith)) ∙ k.holds)) in
            omega (arith, claim-true U r (held S r) (omega arith) t)

    -- where all rows are settled, the state is the first pair
    pub settled-first : (S : List ℕ) → Settling B S (rows B) → First B S
    settled-first S s = record { pair = pair; least = least }
      where
        tables : Tables B S
        tables = record { long = s.partial.long; bits = s.below }

        pair : Pair B S
        pair = record { tables = tables; fits = (fits-iff-carries B ok S tables).1 s.partial.closed }

        least : (U : List ℕ) → Pair B U → NotAfter B S U
        least U p r lt same = go (dec_le (held S r) (held U r))
          where
            go : Dec (held S r ≤ held U r) → held S r ≤ held U r
            go (yes h) = h
            go (no h) =
                let bs : held S r < 2 = s.below r lt in
                absurd (cause-forces S U r (s.cause r lt bs) p same (omega arith) (omega arith))
