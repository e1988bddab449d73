-- The solver: row by row, from spreads. Whoever can spread from every claim can answer, so a pair exists exactly if no walk stands.
-- Assumes nothing.
use mathlib.Core.Path.{◌≡◌, refl, subst}
use mathlib.Core.List.{List, ◌++◌}
use mathlib.Core.Logic.{◌↔◌, inl, inr}
use Prim.Native.Nat.{ℕ, zero, suc, ◌+◌, ◌*◌, ◌-◌, ◌<◌, ◌≤◌}
use native.Mathlib.Decide.{dec_lt}
use native.Mathlib.Omega.{arith}
use lib.ListN.{length, replicate, length-append}
use Rattle.board.specs.Board.{Board, Shows, rows, row, claim, opposite}
use Rattle.board.specs.Tables.{held, First, Pair}
use Rattle.answer.specs.Answer.{Entry}
use Rattle.board.specs.Walk.{Stands, Reaches, Within}
use Rattle.theory.specs.Solve.{Good, Settling, Explored, Answer, tables, walk}
use Rattle.board.proofs.Claims.{row-claim, opposite-zero, opposite-one}
use Rattle.board.proofs.Walks.{soundness}
use Rattle.theory.proofs.Reach.{closed-walk, reach-cast, within-cast}
use Rattle.theory.proofs.First.{settled-first}
use Rattle.theory.proofs.Explore.{explore}
use Rattle.theory.proofs.Merge.{merge, merge-merged, merge-settles, skip, blank-settling}

module _ (B : Board) where
  -- what the work on row q comes to
  pub data Turn (q : ℕ) (S : List ℕ) : Type 0 where
    settled : (S' : List ℕ) → Settling B S' (suc q) → Turn q S
    failed : (w : List Entry) → Stands B w → length w ≤ 4 * rows B - 2 → Turn q S

  -- both spreads of a row failed: the 0 claim reaches the 1 claim, and the 1 claim the 0 claim
  pub both-fail :
      (q : ℕ) → q < rows B → Within B (2 * rows B - 1) (claim q 0) (opposite (claim q 0)) → Within B (2 * rows B - 1) (claim q 1) (opposite (claim q 1)) →
      (w : List Entry) × Stands B w × (length w ≤ 4 * rows B - 2)
  both-fail q lt v w =
      let r : Within B (2 * rows B - 1) (claim q 0) (claim q 1) = within-cast B (omega arith) refl (opposite-zero q) v in
      let s : Within B (2 * rows B - 1) (claim q 1) (claim q 0) = within-cast B (omega arith) refl (opposite-one q) w in (
        r.reaches.entries ++ s.reaches.entries,
        closed-walk B (opposite-zero q) r.reaches s.reaches,
        omega (arith, length-append r.reaches.entries s.reaches.entries, r.short, s.short),
      )

  module _ (ok : Shows B) (explored : (c : ℕ) → row c < rows B → Explored B c) where
    module _ (S : List ℕ) (q : ℕ) (s : Settling B S q) (lt : q < rows B) where
      -- the spread from the row's claim v
      tried : (v : ℕ) → v < 2 → Explored B (claim q v)
      tried v b = explored (claim q v) (rw (row-claim q v b) lt)

      unfinished : held S q ≡ 2 → Turn q S
      unfinished u = first (tried 0 (omega arith)) (tried 1 (omega arith))
        where
          take : (v : ℕ) → v < 2 → (v ≡ 1 → Reaches B (claim q 0) (claim q 1)) → (x : Explored B (claim q v)) → Good x.In → Turn q S
          take v b forced x good =
              settled (merge B x.In S)
              (merge-settles B S q s ok lt u v b forced x.In x.spread (merge B x.In S) (merge-merged B x.In S good))

          second : Within B (2 * rows B - 1) (claim q 0) (opposite (claim q 0)) → Explored B (claim q 1) → Turn q S
          second f y =
              elim y.verdict [
                | inl good ↦ take 1 (omega arith) (λ e. reach-cast B refl (opposite-zero q) f.reaches) y good
                | inr g ↦ let t = both-fail q lt f g in failed t.0 t.1 t.2
              ]

          first : Explored B (claim q 0) → Explored B (claim q 1) → Turn q S
          first x y = elim x.verdict [ inl good ↦ take 0 (omega arith) (λ e. absurd (omega arith)) x good | inr f ↦ second f y ]

      pub turn : Turn q S
      turn = go (dec_lt (held S q) 2)
        where
          go : Dec (held S q < 2) → Turn q S
          go (yes h) = settled S (skip B S q s h)
          go (no h) = unfinished (omega (arith, s.partial.small q lt))

    -- k rows are left
    rest : (k q : ℕ) → q + k ≡ rows B → (S : List ℕ) → Settling B S q → Answer B
    rest zero q e S s = let p : q ≡ rows B = omega arith in tables S (settled-first B ok S (subst (Settling B S) p s))
    rest (suc k) q e S s = go (turn S q s (omega arith)) (rest k (suc q))
      where
        go : Turn q S → (suc q + k ≡ rows B → (S' : List ℕ) → Settling B S' (suc q) → Answer B) → Answer B
        go (settled S' s') more = more (omega arith) S' s'
        go (failed w st l) more = walk w st l

    pub solve-by : Answer B
    solve-by = rest (rows B) 0 (omega arith) (replicate (rows B) 2) (blank-settling B ok)

  module _ (ok : Shows B) where
    -- every board has an answer
    pub solved : Answer B
    solved = solve-by ok (λ c h. explore B c ok h)

    -- a pair exists exactly if no walk stands
    pub pair-iff-no-walk : ((T : List ℕ) × Pair B T) ↔ (¬ ((w : List Entry) × Stands B w))
    pair-iff-no-walk = (λ t w. soundness B ok w.0 w.1 t.0 t.1, λ n. go n (solved))
      where
        go : ¬ ((w : List Entry) × Stands B w) → Answer B → (T : List ℕ) × Pair B T
        go n (tables T f) = (T, f.pair)
        go n (walk w st l) = absurd (n (w, st))

    -- if a pair fits there is a first one
    pub first-of-pair : (U : List ℕ) → Pair B U → (T : List ℕ) × First B T
    first-of-pair U p = go (solved)
      where
        go : Answer B → (T : List ℕ) × First B T
        go (tables T f) = (T, f)
        go (walk w st l) = absurd (soundness B ok w st U p)
