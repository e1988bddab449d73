-- The work on one row, and the loop over the rows.
--     second-settles    where the attempt with a row's 0 claim fails, that with its 1 claim settles the row, or both halves of a walk are written
--     Searching         the loop's invariant: all rows below r are settled
--     search-starts     it holds where no row is settled
--     search-ends       where all rows are done, the state is the first pair
-- Assumes nothing.
use Rattle.std.proofs.Common.{Option, Some, None}
use mathlib.Core.Path.{◌≡◌, refl, sym, ◌∙◌, subst}
use mathlib.Core.List.{List}
use Prim.Native.Nat.{ℕ, ◌+◌, ◌*◌, ◌<◌, ◌≤◌}
use native.Mathlib.Omega.{arith}
use lib.ListN.{length, replicate, length-replicate, get_or-replicate}
use lib.Seq.{ext_get_or}
use Rattle.board.specs.Board.{rows, row, opposite}
use Rattle.theory.specs.Solve.{Settling}
use Rattle.theory.proofs.Merge.{blank-settling}
use Rattle.theory.proofs.First.{settled-first}
use Rattle.grid.specs.Grid.{grid_board, Sound}
use Rattle.grid.specs.Grid.{Grid}
use Rattle.scan.specs.Reach.{Store}
use Rattle.scan.proofs.Sizes.{shows}
use Rattle.attempt.specs.Attempt.{Half, Attempted}
use Rattle.search.specs.Settle.{Settles, Settled, Searches, Searched}
use Rattle.search.proofs.Halves.{halves-written}

-- the claims of row r, as they are counted
row_one : (r : ℕ) → row (2 * r + 1) ≡ r
row_one r = omega arith

to_one : (r : ℕ) → opposite (2 * r) ≡ 2 * r + 1
to_one r = omega arith

to-zero : (r : ℕ) → opposite (2 * r + 1) ≡ 2 * r
to-zero r = omega arith

-- ---- one row

module _
    {g : Grid}
    {s t : Store}
    {r : ℕ}
    {S W S' W' : List ℕ}
    {middle : ℕ}
    (ok : Sound g)
    (a : Settles g s r S W)
    (b : Attempted g (2 * r) S W 0 t S' W' (Some middle))
  where
    x : Half g (2 * r) S W 0 S' W' middle
    x = b.ends

    pub second-settles : {u : Store} {S'' W'' : List ℕ} {end : Option ℕ} → Attempted g (2 * r + 1) S' W' middle u S'' W'' end → Settled g r W u S'' W'' end
    second-settles {end = None} d = record { room = d.room; long_walk = d.long_walk ∙ b.long_walk; ends = rw (row_one r) at d.ends }
    second-settles {S'' = S''} {W'' = W''} {end = Some last} d =
        let y : Half g (2 * r + 1) S' W' middle S'' W'' last = d.ends in
        record {
          room = d.room;
          long_walk = d.long_walk ∙ b.long_walk;
          ends = halves-written x y ok (to_one r) (to-zero r)
              (omega (arith, a.space, d.long_walk, b.long_walk, x.end_is, y.end_is, x.half.few, y.half.few, x.half.some));
        }

-- ---- all rows

-- W₀ is the scratch as it was at first: its length stays
pub record Searching (g : Grid) (W₀ S W : List ℕ) (r : ℕ) : Type 0 where
  pub settling : Settling (grid_board g) S r
  pub long_walk : length W ≡ length W₀
  pub upto : r ≤ rows (grid_board g)

module _ {g : Grid} {S₀ W₀ : List ℕ} (ok : Sound g) (a : Searches g S₀ W₀) where
  unsettled : S₀ ≡ replicate (rows (grid_board g)) 2
  unsettled =
      let n = rows (grid_board g) in
      ext_get_or 0 S₀ (replicate n 2) (a.long ∙ sym (length-replicate n 2)) (λ i l.
      let h : i < n = omega (arith, a.long) in
      a.unsettled i h ∙ sym (get_or-replicate n i 2 0 h))

  pub search-starts : Searching g W₀ S₀ W₀ 0
  search-starts = record { settling = rw unsettled (blank-settling (grid_board g) (shows ok)); long_walk = refl; upto = omega arith }

  pub search-ends : {S W : List ℕ} {r : ℕ} → Searching g W₀ S W r → rows (grid_board g) ≤ r → Searched g W₀ S W None
  search-ends {S} {r = r} b l =
      let e : r ≡ rows (grid_board g) = omega (arith, b.upto) in
      record {
        long_walk = b.long_walk;
        ends = settled-first (grid_board g) (shows ok) S (subst (Settling (grid_board g) S) e b.settling);
      }
