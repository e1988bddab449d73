-- Two halves of a walk, the first from a claim to its opposite and the second back, one after the other in the scratch: a walk that stands.
--     half-reaches      the entries of a half lead from its claim to the opposite
--     halves-stand      the entries of both are a walk that stands
--     halves-few        it is not long
--     halves-walk       its claims and combinations are those of the board
--     halves-bytes      its bytes are at the front of the scratch
--     halves-written    all of this together
-- Assumes nothing.
use mathlib.Core.Path.{◌≡◌, sym, ◌∙◌}
use mathlib.Core.List.{List, [], ◌∷◌, ◌++◌}
use Prim.Native.Nat.{ℕ, zero, suc, ◌+◌, ◌*◌, ◌<◌, ◌≤◌}
use native.Mathlib.Omega.{arith}
use lib.ListN.{length, take, drop, length-append}
use lib.Seq.{take_at}
use Rattle.answer.specs.Answer.{Entry}
use Rattle.answer.specs.Written.{fours, entry_at, IsWalk}
use Rattle.board.specs.Board.{opposite}
use Rattle.board.specs.Walk.{Stands, Reaches}
use Rattle.theory.proofs.Reach.{closed-walk}
use Rattle.grid.specs.Grid.{claims, Sound, grid_board}
use Rattle.grid.specs.Grid.{Grid}
use Rattle.spread.specs.Walk.{HalfWalk}
use Rattle.attempt.specs.Attempt.{Half}
use Rattle.search.specs.Settle.{WalkWritten}
use Rattle.spread.proofs.Back.{fours-length, fours-append}

-- what holds of the entries of each of two lists
all_append :
    (P : Entry → Type 0) (es fs : List Entry) → ((i : ℕ) → i < length es → P (entry_at es i)) → ((i : ℕ) → i < length fs → P (entry_at fs i)) →
    (i : ℕ) → i < length (es ++ fs) → P (entry_at (es ++ fs) i)
all_append P [] fs p q i h = q i h
all_append P (e ∷ es) fs p q zero h = p 0 (omega arith)
all_append P (e ∷ es) fs p q (suc i) h = all_append P es fs (λ j l. p (suc j) (omega arith)) q i (omega arith)

-- entries that lead from c to its opposite, d
unfoldable pub half-reaches : {g : Grid} {c d : ℕ} {es : List Entry} → opposite c ≡ d → HalfWalk g c es → Reaches (grid_board g) c d
half-reaches {es = es} p u = record { entries = es; begins = rw p at u.start_of; goes = rw p at u.goes }

module _ {g : Grid} {c d : ℕ} {es fs : List Entry} (p : opposite c ≡ d) (q : opposite d ≡ c) (u : HalfWalk g c es) (v : HalfWalk g d fs) where
  pub halves-stand : Stands (grid_board g) (es ++ fs)
  unfolding half-reaches
  halves-stand = closed-walk (grid_board g) p (half-reaches p u) (half-reaches q v)

  pub halves-few : length (es ++ fs) + 2 ≤ 2 * claims g
  halves-few = omega (arith, length-append es fs, u.few, v.few, u.some)

  pub halves-walk : Sound g → IsWalk (claims g) g.shape.combinations (es ++ fs)
  halves-walk ok =
      record {
        some = omega (arith, length-append es fs, u.some);
        most = omega (arith, halves-few, ok.sizes.few_a, ok.sizes.few_b);
        claim = all_append (λ e. e.says < claims g) es fs u.claim v.claim;
        combination = all_append (λ e. e.by < g.shape.combinations) es fs u.combination v.combination;
      }

-- the first half from place 0 of the scratch on, the second after it
module _
    {g : Grid}
    {c d : ℕ}
    {S S' S'' W W' W'' : List ℕ}
    {middle last : ℕ}
    (x : Half g c S W 0 S' W' middle)
    (y : Half g d S' W' middle S'' W'' last)
  where
    front : take middle W' ≡ fours x.entries
    front = rw x.bytes (take_at (fours x.entries) (drop middle W) middle (omega (arith, fours-length x.entries, x.end_is)))

    pub halves-bytes : take last W'' ≡ fours (x.entries ++ y.entries)
    halves-bytes =
        let es = x.entries in
        let fs = y.entries in
        let long : length (fours es ++ fours fs) ≡ last =
        length-append (fours es) (fours fs) ∙ omega (arith, fours-length es, fours-length fs, x.end_is, y.end_is) in
        rw (y.bytes, front) (take_at (fours es ++ fours fs) (drop last W') last long ∙ sym (fours-append es fs))

    pub halves-written : Sound g → opposite c ≡ d → opposite d ≡ c → last ≤ length W'' → WalkWritten g W'' last
    halves-written ok p q w =
        let es = x.entries in
        let fs = y.entries in
        record {
          entries = es ++ fs;
          stands = halves-stand p q x.half y.half;
          walks = halves-walk p q x.half y.half ok;
          few = omega (arith, halves-few p q x.half y.half);
          end_is = omega (arith, length-append es fs, x.end_is, y.end_is);
          within = w;
          bytes = halves-bytes;
        }
