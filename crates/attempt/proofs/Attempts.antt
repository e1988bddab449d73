-- One spread from a claim of the next row.
--     attempt-starts     what the spread asks
--     merge-room         there is a mark for each claim of each row
--     attempt-good       where the opposite is not marked, the rows of the marked claims are settled
--     attempt-backs      where it is marked, the way back may be written
--     attempt-fails      and what is then written is half of a walk
-- Assumes nothing.
use Rattle.std.proofs.Common.{Some, None}
use mathlib.Core.Path.{◌≡◌, refl, ap, ◌∙◌}
use mathlib.Core.List.{List, ◌++◌}
use Prim.Native.Nat.{ℕ, suc, ◌+◌, ◌*◌, ◌<◌, ◌≤◌}
use native.Mathlib.Omega.{arith}
use lib.ListN.{length, take, drop}
use lib.Seq.{sets-eq}
use Rattle.answer.specs.Written.{fours}
use Rattle.answer.specs.declared.page.Page.{Page}
use Rattle.answer.proofs.Pieces.{same_long}
use Rattle.board.specs.Board.{row, value, claim, opposite}
use Rattle.board.proofs.Claims.{claim-row}
use Rattle.theory.specs.Solve.{Spread as BoardSpread, Settling}
use Rattle.theory.proofs.Merge.{merge-settles}
use Rattle.grid.specs.Grid.{claims, grid_board, Sound}
use Rattle.grid.specs.Grid.{Grid}
use Rattle.scan.specs.Reach.{Store, mark, marked}
use Rattle.scan.proofs.Sizes.{shows}
use Rattle.spread.specs.Spread.{Starts, Spread}
use Rattle.spread.specs.Walk.{Backs, Written, HalfWalk}
use Rattle.spread.proofs.Meaning.{spread-is, unmarked-good, mark-one, half-backs, half-walk}
use Rattle.attempt.specs.Merge.{MergedBy}
use Rattle.attempt.specs.Attempt.{Attempts, Attempted}
use Rattle.attempt.proofs.Merging.{merged}
use Rattle.spread.proofs.Back.{fours-length}

module _ {g : Grid} {s : Store} {c at : ℕ} {S W : List ℕ} (ok : Sound g) (a : Attempts g s c S W at) where
  inside : c < claims g
  inside = omega (arith, a.trying.row)

  pub attempt-starts : Starts g s c
  attempt-starts = record { room = a.room; inside = inside }

  pub merge-room : {t : Store} {r : ℕ} → Spread g c t r → 2 * length S ≤ length t.reached
  merge-room h = omega (arith, a.trying.settling.partial.long, h.reach.room.reached)

  module _ {t : Store} {r d : ℕ} (h : Spread g c t r) (e : d ≡ opposite c) where
    settling : {S' : List ℕ} → mark t d ≡ 0 → MergedBy t.reached S S' → Settling (grid_board g) S' (suc (row c))
    settling {S'} z m =
        let y = a.trying in
        let good = unmarked-good ok inside h (rw e at z) in
        let spread : BoardSpread (grid_board g) (claim (row c) (value c)) (marked g t) = rw (claim-row c) (spread-is ok inside h) in
        merge-settles (grid_board g) S (row c) y.settling (shows ok) y.row y.unsettled (value c) y.bit y.forced (marked g t) spread S'
        (merged g t y.settling.partial.long good m)

    pub attempt-good : {S' : List ℕ} → mark t d ≡ 0 → MergedBy t.reached S S' → Attempted g c S W at t S' W None
    attempt-good z m = record { room = h.reach.room; long_walk = refl; ends = settling z m }

    module _ (n : mark t d ≡ 0 → ⊥) where
      one : mark t (opposite c) ≡ 1
      one = mark-one h (opposite c) (omega (arith, inside)) (λ z. n (rw e z))

      pub attempt-backs : Backs t.queue t.from t.by r c d at W
      attempt-backs = rw e (half-backs ok inside h one a.space)

      pub attempt-fails : {p q : Page} → p.bytes.now ≡ W → p.at ≡ at → Written t.from t.by r c d p q → {W' : List ℕ} → W' ≡ q.bytes.now → Attempted g c S W at t S W' (Some q.at)
      attempt-fails {p} {q} e₁ e₂ v {W'} e₃ =
          let w : Written t.from t.by r c (opposite c) p q = rw e at v in
          let half : HalfWalk g c w.entries = half-walk ok inside h one w in
          let end : q.at ≡ at + 4 * length w.entries = omega (arith, w.wrote.stored.value, fours-length w.entries, e₂) in
          let fits : at + length (fours w.entries) ≤ length W = omega (arith, fours-length w.entries, w.few, h.few, a.space) in
          let last : at + length (fours w.entries) ≡ q.at = omega (arith, w.wrote.stored.value, e₂) in
          let bytes : W' ≡ take at W ++ fours w.entries ++ drop q.at W = e₃ ∙ w.wrote.stored.out_after ∙ rw (e₁, e₂) (rw (← last) (sets-eq (fours w.entries) W at fits)) in
          record {
            room = h.reach.room;
            long_walk = ap length e₃ ∙ same_long w.wrote ∙ ap length e₁;
            ends = record { same = refl; entries = w.entries; half = half; end_is = end; bytes = bytes };
          }
