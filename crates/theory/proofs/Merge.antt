-- A good spread from an unsettled row, merged into the state, keeps what holds of the state; a state without settled rows is where the solver starts.
-- Assumes nothing.
use mathlib.Core.Path.{◌≡◌, refl, ◌∙◌, sym, ap, subst}
use mathlib.Core.Bool.{Bool, true, false, cond}
use mathlib.Core.List.{List}
use mathlib.Core.Logic.{◌⊎◌, inl, inr}
use Prim.Native.Nat.{ℕ, suc, ◌-◌, ◌<◌, ◌≤◌}
use native.Mathlib.Decide.{dec_lt}
use native.Mathlib.Omega.{arith}
use lib.ListN.{replicate, length-replicate, get_or-replicate}
use Rattle.std.specs.Prelude.{map}
use Rattle.std.specs.List.{range_with_len}
use Rattle.std.proofs.lemmas.List.FromFn.{length-map-range_with_len, get_or-map-range_with_len}
use Rattle.board.specs.Board.{Board, Shows, rows, row, value, claim, opposite}
use Rattle.board.specs.Tables.{held, True}
use Rattle.board.specs.Walk.{Carries, Reaches}
use Rattle.theory.specs.Solve.{Good, Spread, Merged, Partial, Cause, Settling}
use Rattle.board.proofs.Finite.{below_suc}
use Rattle.board.proofs.Claims.{claim-true, value-bit, row-claim, bit-cases, row-opposite, value-opposite, claim-row, opposite-zero, claim-cases}
use Rattle.board.proofs.Steps.{step_from, step-to}
use Rattle.board.proofs.Walks.{reach-along, opposite-true}
use Rattle.theory.proofs.Reach.{reach-contraposition}

-- a set of claims has a claim of row r, or none of the two
pub data Covers (In : ℕ → Bool) (r : ℕ) : Type 0 where
  has : (w : ℕ) → w < 2 → In (claim r w) ≡ true → Covers In r
  lacks : In (claim r 0) ≡ false → In (claim r 1) ≡ false → Covers In r

pub covers : (In : ℕ → Bool) (r : ℕ) → Covers In r
covers In r = go (In (claim r 0)) (In (claim r 1)) refl refl
  where
    go : (x y : Bool) → In (claim r 0) ≡ x → In (claim r 1) ≡ y → Covers In r
    go true y e f = has 0 (omega arith) e
    go false true e f = has 1 (omega arith) f
    go false false e f = lacks e f

-- the state with what a spread settles
pub merge : Board → (ℕ → Bool) → List ℕ → List ℕ
merge B In S = map (λ r. cond (In (claim r 0)) 0 (cond (In (claim r 1)) 1 (held S r))) (range_with_len 0 (rows B))

module _ (B : Board) where
  pub held-blank : (r : ℕ) → r < rows B → held (replicate (rows B) 2) r ≡ 2
  held-blank r h = get_or-replicate (rows B) r 2 0 h

  pub held-merge : (In : ℕ → Bool) (S : List ℕ) (r : ℕ) → r < rows B → held (merge B In S) r ≡ cond (In (claim r 0)) 0 (cond (In (claim r 1)) 1 (held S r))
  unfolding merge
  held-merge In S r h = get_or-map-range_with_len (λ i. cond (In (claim i 0)) 0 (cond (In (claim i 1)) 1 (held S i))) 0 (rows B) r r 0 h (omega arith)

  pub merge-merged : (In : ℕ → Bool) (S : List ℕ) → Good In → Merged B In S (merge B In S)
  unfolding merge
  merge-merged In S good = record { long = length-map-range_with_len _ 0 (rows B); taken = taken; kept = kept }
    where
      kept : (r : ℕ) → r < rows B → In (claim r 0) ≡ false → In (claim r 1) ≡ false → held (merge B In S) r ≡ held S r
      kept r h n m = held-merge In S r h ∙ rw (n, m)

      one : (r : ℕ) → r < rows B → (b : Bool) → In (claim r 0) ≡ b → In (claim r 1) ≡ true → held (merge B In S) r ≡ 1
      one r h true e i = absurd (good (claim r 0) e (rw (opposite-zero r) i))
      one r h false e i = held-merge In S r h ∙ rw (e, i)

      taken : (L : ℕ) → row L < rows B → In L ≡ true → True (merge B In S) L
      taken L h i = go (claim-cases L)
        where
          go : ((L ≡ claim (row L) 0) × (opposite L ≡ claim (row L) 1)) ⊎ ((L ≡ claim (row L) 1) × (opposite L ≡ claim (row L) 0)) → True (merge B In S) L
          go (inl t) =
              let e : In (claim (row L) 0) ≡ true = subst (λ (K : ℕ). In K ≡ true) t.0 i in
              let z : held (merge B In S) (row L) ≡ 0 = held-merge In S (row L) h ∙ rw e in
              omega (arith, z, t.0)
          go (inr t) =
              let e : In (claim (row L) 1) ≡ true = subst (λ (K : ℕ). In K ≡ true) t.0 i in
              let z : held (merge B In S) (row L) ≡ 1 = one (row L) h (In (claim (row L) 0)) refl e in
              omega (arith, z, t.0)

  -- what an unsettled claim reaches does not contradict what is settled: the opposite would reach back to the claim's row
  pub no-contradiction : (S : List ℕ) → Partial B S → {c L : ℕ} → held S (row c) ≡ 2 → Reaches B c L → held S (row L) < 2 → True S L
  no-contradiction S p {c} {L} u r h = go (bit-cases (held S (row L)) (value L) h (value-bit L))
    where
      go : (held S (row L) ≡ value L) ⊎ (held S (row L) ≡ 1 - value L) → True S L
      go (inl e) = e
      go (inr e) =
          let o : True S (opposite c) = reach-along B (True S) p.closed (reach-contraposition B r) (opposite-true S L e) in
          absurd (omega (arith, u, sym (ap (held S) (row-opposite c)) ∙ o, value-opposite c))

  -- a good spread from an unsettled claim, merged into a state
  module _
      (ok : Shows B)
      (S : List ℕ)
      (p : Partial B S)
      (c : ℕ)
      (unsettled : held S (row c) ≡ 2)
      (In : ℕ → Bool)
      (spread : Spread B c In)
      (S' : List ℕ)
      (merged : Merged B In S S')
    where
      pub taken-row : (r w : ℕ) → r < rows B → w < 2 → In (claim r w) ≡ true → held S' r ≡ w
      taken-row r w h k i = claim-true S' r w k (merged.taken (claim r w) (rw (row-claim r w k) h) i)

      -- what is settled stays
      pub grows : (r : ℕ) → r < rows B → held S r < 2 → held S' r ≡ held S r
      grows r h k = go (covers In r)
        where
          go : Covers In r → held S' r ≡ held S r
          go (lacks n m) = merged.kept r h n m
          go (has w b i) =
              let t : True S (claim r w) = no-contradiction S p unsettled (spread.reached (claim r w) i) (rw (row-claim r w b) k) in
              taken-row r w h b i ∙ sym (claim-true S r w b t)

      -- what is settled now is in the spread, or was settled before
      pub origin : (r : ℕ) → r < rows B → held S' r < 2 → (In (claim r (held S' r)) ≡ true) ⊎ (held S' r ≡ held S r)
      origin r h k = go (covers In r)
        where
          go : Covers In r → (In (claim r (held S' r)) ≡ true) ⊎ (held S' r ≡ held S r)
          go (lacks n m) = inr (merged.kept r h n m)
          go (has w b i) = inl (rw (taken-row r w h b i) i)

      small' : (r : ℕ) → r < rows B → held S' r < 3
      small' r h = go (covers In r)
        where
          go : Covers In r → held S' r < 3
          go (lacks n m) = rw (merged.kept r h n m) (p.small r h)
          go (has w b i) = omega (arith, taken-row r w h b i)

      closed' : Carries B S'
      closed' L M a t st = go (origin (row L) (step_from B ok st) (rw t (value-bit L)))
        where
          go : (In (claim (row L) (held S' (row L))) ≡ true) ⊎ (held S' (row L) ≡ held S (row L)) → True S' M
          go (inl i) =
              let i_l : In L ≡ true = subst (λ (K : ℕ). In K ≡ true) (ap (claim (row L)) t ∙ claim-row L) i in
              merged.taken M (step-to B ok st) (spread.closed L M a i_l st)
          go (inr e) =
              let t_m : True S M = p.closed L M a (sym e ∙ t) st in
              grows (row M) (step-to B ok st) (rw t_m (value-bit M)) ∙ t_m

      pub merge-partial : Partial B S'
      merge-partial = record { long = merged.long; small = small'; closed = closed' }

  -- no row is settled
  pub blank : Shows B → Partial B (replicate (rows B) 2)
  blank ok =
      record {
        long = length-replicate (rows B) 2;
        small = λ r h. rw (held-blank r h) (omega arith);
        closed = λ L M a t st. absurd (omega (arith, held-blank (row L) (step_from B ok st), t));
      }

  pub blank-settling : Shows B → Settling B (replicate (rows B) 2) 0
  blank-settling ok = record { partial = blank ok; cause = λ r h k. absurd (omega (arith, held-blank r h)); below = λ r h. absurd (omega arith) }

  module _ (S : List ℕ) (q : ℕ) (s : Settling B S q) where
    -- a row that is settled already needs no spread
    pub skip : held S q < 2 → Settling B S (suc q)
    skip h = record { partial = s.partial; cause = s.cause; below = below_suc (λ r. held S r < 2) q s.below h }

    -- a good spread from the current row, merged into the state, settles the row and keeps what holds of the state
    module _
        (ok : Shows B)
        (lt : q < rows B)
        (unsettled : held S q ≡ 2)
        (v : ℕ)
        (bit : v < 2)
        (forced : v ≡ 1 → Reaches B (claim q 0) (claim q 1))
        (In : ℕ → Bool)
        (spread : Spread B (claim q v) In)
        (S' : List ℕ)
        (merged : Merged B In S S')
      where
        open' : held S (row (claim q v)) ≡ 2
        open' = ap (held S) (row-claim q v bit) ∙ unsettled

        stays : (r : ℕ) → r < rows B → held S r < 2 → held S' r ≡ held S r
        stays = grows ok S s.partial (claim q v) open' In spread S' merged

        holds' : held S' q ≡ v
        holds' = taken-row ok S s.partial (claim q v) open' In spread S' merged q v lt bit spread.begins

        cause' : (r : ℕ) → r < rows B → held S' r < 2 → Cause B S' r
        cause' r h k = go (dec_lt (held S r) 2) (origin ok S s.partial (claim q v) open' In spread S' merged r h k)
          where
            -- a row that was settled before keeps its cause
            old : held S r < 2 → Cause B S r → Cause B S' r
            old b c =
                record {
                  from = c.from;
                  bit = c.bit;
                  small = c.small;
                  early = c.early;
                  holds = stays c.from (omega (arith, c.early)) (rw c.holds c.small) ∙ c.holds;
                  reaches = rw (stays r h b) c.reaches;
                  forced = c.forced;
                }

            -- the spread is the cause of the others, which are not below its row
            new : q ≤ r → In (claim r (held S' r)) ≡ true → Cause B S' r
            new e i =
                record {
                  from = q;
                  bit = v;
                  small = bit;
                  early = e;
                  holds = holds';
                  reaches = spread.reached (claim r (held S' r)) i;
                  forced = forced;
                }

            go : Dec (held S r < 2) → (In (claim r (held S' r)) ≡ true) ⊎ (held S' r ≡ held S r) → Cause B S' r
            go (yes b) o = old b (s.cause r h b)
            go (no n) (inl i) = let nr : ¬ (r < q) = λ l. n (s.below r l) in new (omega arith) i
            go (no n) (inr e) = absurd (n (omega arith))

        pub merge-settles : Settling B S' (suc q)
        merge-settles =
            record {
              partial = merge-partial ok S s.partial (claim q v) open' In spread S' merged;
              cause = cause';
              below = below_suc (λ r. held S' r < 2) q (λ r k. rw (stays r (omega arith) (s.below r k)) (s.below r k)) (rw holds' bit);
            }
