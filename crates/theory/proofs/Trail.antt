-- A spread as it is made: claims one after the other, each but the first by a step from an earlier one. The place of a claim bounds the steps to it.
-- Assumes nothing.
use mathlib.Core.Path.{◌≡◌, refl, ◌∙◌, sym, ap}
use mathlib.Core.Bool.{Bool, true}
use mathlib.Core.Logic.{◌⊎◌, ◌≢◌, ◌↔◌, inl, inr}
use Prim.Native.Nat.{ℕ, zero, suc, ◌+◌, ◌*◌, ◌-◌, ◌<◌, ◌≤◌}
use native.Mathlib.Decide.{ℕ_discrete, dec_lt, dec_le}
use native.Mathlib.Omega.{arith}
use Rattle.board.specs.Board.{Board, Shows, rows, row, opposite}
use Rattle.board.specs.Walk.{Step, Within}
use Rattle.theory.specs.Solve.{Good, Spread, Explored}
use Rattle.theory.specs.Trail.{Trail, Has, Grown, Whole}
use Rattle.board.proofs.Finite.{below_suc, put, put_same, put-below, Found, lowest, none, find, dec-below, Twice, pigeonhole}
use Rattle.board.proofs.Claims.{same_row, not-own-opposite}
use Rattle.board.proofs.Steps.{step-to}
use Rattle.theory.proofs.Reach.{within-refl, within_step, within-trans, within-cast, clash-within, reach-cast}

-- a trail with one place more
module _ (B : Board) (c n : ℕ) (at parent by at' parent' by' : ℕ → ℕ) (t : Trail B c n at parent by) (g : Grown B n at parent by at' parent' by') where
  pub trail-grows : Trail B c (suc n) at' parent' by'
  trail-grows =
      record {
        some = omega arith;
        first = g.keeps 0 t.some ∙ t.first;
        earlier = λ k p h. earlier k h p;
        steps = λ k p h. steps k h p;
        distinct = λ j k p h. distinct k h j p;
      }
    where
      earlier : (k : ℕ) → k < suc n → 0 < k → parent' k < k
      earlier = below_suc (λ k. 0 < k → parent' k < k) n (λ k h p. rw (g.keeps_parent k h) (t.earlier k p h)) (λ p. g.from)

      steps : (k : ℕ) → k < suc n → 0 < k → Step B (at' (parent' k)) (at' k) (by' k)
      steps =
          below_suc (λ k. 0 < k → Step B (at' (parent' k)) (at' k) (by' k)) n
          (λ k h p. rw (g.keeps_parent k h, g.keeps (parent k) (omega (arith, t.earlier k p h)), g.keeps k h, g.keeps_by k h) (t.steps k p h))
          (λ p. rw (g.keeps (parent' n) g.from) g.step)

      distinct : (k : ℕ) → k < suc n → (j : ℕ) → j < k → at' j ≢ at' k
      distinct =
          below_suc (λ k. (j : ℕ) → j < k → at' j ≢ at' k) n
          (λ k h j p. rw (g.keeps k h, g.keeps j (omega arith)) (t.distinct j k p h))
          (λ j p. rw (g.keeps j p) λ e. g.fresh (j, p, e))

module _ (B : Board) (c n : ℕ) (at parent by : ℕ → ℕ) where
  module _ (t : Trail B c n at parent by) where
    up_to : (k i : ℕ) → i < k → i < n → Within B i c (at i)
    up_to zero i h l = absurd (omega arith)
    up_to (suc k) i h l = go (ℕ_discrete i 0) (up_to k)
      where
        go : Dec (i ≡ 0) → ((j : ℕ) → j < k → j < n → Within B j c (at j)) → Within B i c (at i)
        go (yes e) rec = within-cast B (omega arith) refl (sym t.first ∙ ap at (sym e)) (within-refl B c)
        go (no ne) rec =
            let e : parent i < i = t.earlier i (omega arith) l in
            let w : Within B (parent i) c (at (parent i)) = rec (parent i) (omega arith) (omega arith) in
            within-cast B (omega arith) refl refl (within-trans B w (within_step B (t.steps i (omega arith) l) (within-refl B (at i))))

    -- each claim of the trail is reached by at most as many steps as claims are before it
    pub trail-within : (i : ℕ) → i < n → Within B i c (at i)
    trail-within i h = up_to (suc i) i (omega arith) h

    -- a claim whose opposite came before it: the start reaches its own opposite
    pub trail-clash : (i j : ℕ) → i < j → j < n → at i ≡ opposite (at j) → Within B (j + i) c (opposite c)
    trail-clash i j h l e = clash-within B (trail-within j l) (within-cast B (omega arith) refl e (trail-within i (omega arith)))

    -- the claims of a trail from a row of the board are of rows of the board
    pub trail-inside : Shows B → row c < rows B → (i : ℕ) → i < n → row (at i) < rows B
    trail-inside ok h i l = go (ℕ_discrete i 0)
      where
        go : Dec (i ≡ 0) → row (at i) < rows B
        go (yes e) = rw (e, t.first) h
        go (no ne) = step-to B ok (t.steps i (omega arith) l)

    -- there are only so many claims
    pub trail-fits : Shows B → row c < rows B → n ≤ 2 * rows B
    trail-fits ok h = go (dec_le n (2 * rows B))
      where
        no-twice : 2 * rows B < n → Twice at (suc (2 * rows B)) → ⊥
        no-twice l w = t.distinct w.one w.two w.apart (omega (arith, w.within)) w.same

        go : Dec (n ≤ 2 * rows B) → n ≤ 2 * rows B
        go (yes l) = l
        go (no l) = absurd (no-twice (omega arith) (pigeonhole (2 * rows B) at (λ i k. omega (arith, trail-inside ok h i (omega arith)))))

    -- a step that leads to a claim which is not there: it can be put at the next place, for which there is room
    module _ (i M a : ℕ) (l : i < n) (s : Step B (at i) M a) (fresh : ¬ Has n at M) where
      pub trail-puts : Trail B c (suc n) (put n M at) (put n i parent) (put n a by)
      trail-puts =
          trail-grows B c n at parent by (put n M at) (put n i parent) (put n a by) t
          (record {
            keeps = put-below n M at;
            keeps_parent = put-below n i parent;
            keeps_by = put-below n a by;
            from = rw (put_same n i parent) l;
            step = rw (put_same n i parent, put_same n M at, put_same n a by) s;
            fresh = rw (put_same n M at) fresh;
          })

    -- the claims before the first such claim are of different rows, so it comes early, and the steps are few
    module _ (inside : (i : ℕ) → i < n → row (at i) < rows B) where
      abbrev Clash : ℕ → Type 0
      Clash j = (i : ℕ) × (i < j) × (at i ≡ opposite (at j))

      clash? : (j : ℕ) → Dec (Clash j)
      clash? j = dec-below (λ i. at i ≡ opposite (at j)) (λ i. ℕ_discrete (at i) (opposite (at j))) j

      early : (j : ℕ) → j < n → ((k : ℕ) → k < j → ¬ Clash k) → j ≤ rows B
      early j l low = go (dec_le j (rows B))
        where
          no-twice : rows B < j → Twice (λ i. row (at i)) (suc (rows B)) → ⊥
          no-twice h w =
              elim (same_row (at w.one) (at w.two) w.same) [
                | inl e ↦ t.distinct w.one w.two w.apart (omega (arith, w.within)) e
                | inr e ↦ low w.two (omega (arith, w.within)) (w.one, w.apart, e)
              ]

          go : Dec (j ≤ rows B) → j ≤ rows B
          go (yes h) = h
          go (no nh) = absurd (no-twice (omega arith) (pigeonhole (rows B) (λ i. row (at i)) (λ i h. inside i (omega arith))))

      pub good-or-short : ((i j : ℕ) → i < n → j < n → at i ≢ opposite (at j)) ⊎ Within B (2 * rows B - 1) c (opposite c)
      good-or-short = go (find Clash clash? n)
        where
          apart : ((j : ℕ) → j < n → ¬ Clash j) → (i j : ℕ) → i < n → j < n → at i ≢ opposite (at j)
          apart h i j hi hj e = pick (dec_lt i j) (dec_lt j i)
            where
              pick : Dec (i < j) → Dec (j < i) → ⊥
              pick (yes l) d = h j hj (i, l, e)
              pick (no l) (yes m) = h i hi (j, m, omega arith)
              pick (no l) (no m) = let s : i ≡ j = omega arith in not-own-opposite (at j) (ap at (sym s) ∙ e)

          go : Found Clash n → ((i j : ℕ) → i < n → j < n → at i ≢ opposite (at j)) ⊎ Within B (2 * rows B - 1) c (opposite c)
          go (lowest j l p low) = inr (within-cast B (omega (arith, early j l low, p.1)) refl refl (trail-clash p.0 j p.1 l p.2))
          go (none h) = inl (apart h)

    -- a trail that no step leads out of is a spread, and its verdict is known
    module _
        (ok : Shows B)
        (start : row c < rows B)
        (In : ℕ → Bool)
        (in-iff : (L : ℕ) → (In L ≡ true) ↔ Has n at L)
        (whole : Whole B n at)
      where
        pub trail-spread : Spread B c In
        trail-spread =
            record {
              begins = (in-iff c).1 (0, t.some, t.first);
              closed = λ L M a i st. let h = (in-iff L).0 i in (in-iff M).1 (whole h.0 M a h.1 (rw h.2 st));
              reached = λ L i. let h = (in-iff L).0 i in reach-cast B refl h.2 (trail-within h.0 h.1).reaches;
            }

        pub trail-explored : Explored B c
        trail-explored = record { In = In; spread = trail-spread; verdict = go (good-or-short (trail-inside ok start)) }
          where
            go : ((i j : ℕ) → i < n → j < n → at i ≢ opposite (at j)) ⊎ Within B (2 * rows B - 1) c (opposite c) → Good In ⊎ Within B (2 * rows B - 1) c (opposite c)
            go (inr w) = inr w
            go (inl apart) = inl λ L i o. let h = (in-iff L).0 i in let k = (in-iff (opposite L)).0 o in apart k.0 h.0 k.1 h.1 (k.2 ∙ ap opposite (sym h.2))

-- a trail that a step leads out of has room for one more
pub trail-room :
    (B : Board) (c n : ℕ) (at parent by : ℕ → ℕ) → Trail B c n at parent by → Shows B → row c < rows B →
    (i M a : ℕ) → i < n → Step B (at i) M a → ¬ Has n at M → n < 2 * rows B
trail-room B c n at parent by t ok h i M a l s fresh =
    trail-fits B c (suc n) (put n M at) (put n i parent) (put n a by) (trail-puts B c n at parent by t i M a l s fresh) ok h
