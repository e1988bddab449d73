-- The walk as it is written out from a queue: from a place up through the places that it was reached from.
--     Ups         the places on the way from i up to the first: i, its parent, and so on, the first place left out
--     back        in that order and by opposite claims, these lead from the opposite of the claim at i to the opposite of the start
--     forth       in the other order, they lead from the start to the claim at i
--     half-walk   where two places hold opposite claims: from the start to its opposite
-- Assumes nothing.
use mathlib.Core.Path.{◌≡◌, refl, ◌∙◌, sym, ap, subst}
use mathlib.Core.List.{List, [], ◌∷◌, ◌++◌}
use Prim.Native.Nat.{ℕ, suc, ◌+◌, ◌<◌, ◌≤◌}
use native.Mathlib.Omega.{arith}
use lib.ListN.{length, length-append}
use Rattle.board.specs.Board.{Board, opposite}
use Rattle.answer.specs.Answer.{Entry}
use Rattle.board.specs.Walk.{start, Goes, Stands, Reaches}
use Rattle.theory.specs.Trail.{Trail}
use Rattle.board.proofs.Claims.{opposite-opposite}
use Rattle.board.proofs.Steps.{contraposition}
use Rattle.theory.proofs.Reach.{start-append, goes-append, reach-cast, closed-walk}

module _ (at parent by : ℕ → ℕ) where
  abbrev pub Ups : ℕ → List ℕ → Type 0
  Ups i [] = i ≡ 0
  Ups i (x ∷ xs) = (x ≡ i) × (0 < i) × Ups (parent i) xs

  abbrev pub back : List ℕ → List Entry
  back [] = []
  back (x ∷ xs) = record { says = opposite (at x); by = by x } ∷ back xs

  abbrev pub forth : List ℕ → List Entry
  forth [] = []
  forth (x ∷ xs) = forth xs ++ (record { says = at (parent x); by = by x } ∷ [])

  pub length_back : (xs : List ℕ) → length (back xs) ≡ length xs
  length_back [] = refl
  length_back (x ∷ xs) = ap suc (length_back xs)

  pub length-forth : (xs : List ℕ) → length (forth xs) ≡ length xs
  length-forth [] = refl
  length-forth (x ∷ xs) = omega (arith, length-append (forth xs) (record { says = at (parent x); by = by x } ∷ []), length-forth xs)

  module _ (B : Board) (c n : ℕ) (t : Trail B c n at parent by) where
    -- no more places than come before i
    pub length-ups : (xs : List ℕ) (i : ℕ) → i < n → Ups i xs → length xs ≤ i
    length-ups [] i h u = omega arith
    length-ups (x ∷ xs) i h u = let e = t.earlier i u.1 h in omega (arith, length-ups xs (parent i) (omega arith) u.2, e)

    pub start_back : (xs : List ℕ) (i : ℕ) → i < n → Ups i xs → start (back xs) (opposite c) ≡ opposite (at i)
    start_back [] i h u = ap opposite (sym t.first ∙ ap at (sym u))
    start_back (x ∷ xs) i h u = ap (λ (y : ℕ). opposite (at y)) u.0

    pub goes_back : (xs : List ℕ) (i : ℕ) → i < n → Ups i xs → Goes B (back xs) (opposite c)
    goes_back [] i h u = tt
    goes_back (x ∷ xs) i h u =
        let k : parent i < n = omega (arith, t.earlier i u.1 h) in
        (rw (u.0, start_back xs (parent i) k u.2) (contraposition B (t.steps i u.1 h)), goes_back xs (parent i) k u.2)

    pub start-forth : (xs : List ℕ) (i : ℕ) → i < n → Ups i xs → start (forth xs) (at i) ≡ c
    start-forth [] i h u = ap at u ∙ t.first
    start-forth (x ∷ xs) i h u =
        let k : parent i < n = omega (arith, t.earlier i u.1 h) in
        start-append (forth xs) (record { says = at (parent x); by = by x } ∷ []) (at i)
        ∙ ap (λ (y : ℕ). start (forth xs) (at (parent y))) u.0
        ∙ start-forth xs (parent i) k u.2

    pub goes-forth : (xs : List ℕ) (i : ℕ) → i < n → Ups i xs → Goes B (forth xs) (at i)
    goes-forth [] i h u = tt
    goes-forth (x ∷ xs) i h u =
        let k : parent i < n = omega (arith, t.earlier i u.1 h) in
        goes-append B (forth xs) (record { says = at (parent x); by = by x } ∷ []) (at i)
        (subst (λ (y : ℕ). Goes B (forth xs) (at (parent y))) (sym u.0) (goes-forth xs (parent i) k u.2))
        (rw u.0 (t.steps i u.1 h), tt)

    -- the claims at places i and j are opposite
    pub half-walk : (xs ys : List ℕ) (i j : ℕ) → i < n → j < n → at i ≡ opposite (at j) → Ups j xs → Ups i ys → Reaches B c (opposite c)
    half-walk xs ys i j hi hj e u v =
        record {
          entries = forth xs ++ back ys;
          begins = start-append (forth xs) (back ys) (opposite c) ∙ ap (start (forth xs)) meet ∙ start-forth xs j hj u;
          goes = goes-append B (forth xs) (back ys) (opposite c) (subst (Goes B (forth xs)) (sym meet) (goes-forth xs j hj u)) (goes_back ys i hi v);
        }
      where
        meet : start (back ys) (opposite c) ≡ at j
        meet = start_back ys i hi v ∙ ap opposite e ∙ opposite-opposite (at j)

-- two halves, from the two claims of a row, are a walk that stands
module _
    (B : Board)
    (c n m : ℕ)
    (at parent by at' parent' by' : ℕ → ℕ)
    (t : Trail B c n at parent by)
    (t' : Trail B (opposite c) m at' parent' by')
  where
    pub written :
        (xs ys xs' ys' : List ℕ) (i j i' j' : ℕ) → i < n → j < n → i' < m → j' < m → at i ≡ opposite (at j) → at' i' ≡ opposite (at' j') →
        Ups at parent by j xs → Ups at parent by i ys → Ups at' parent' by' j' xs' → Ups at' parent' by' i' ys' →
        Stands B (forth at parent by xs ++ back at parent by ys ++ (forth at' parent' by' xs' ++ back at' parent' by' ys'))
    unfolding half-walk reach-cast
    written xs ys xs' ys' i j i' j' hi hj hi' hj' e e' u v u' v' =
        closed-walk B refl (half-walk at parent by B c n t xs ys i j hi hj e u v)
        (reach-cast B refl (opposite-opposite c) (half-walk at' parent' by' B (opposite c) m t' xs' ys' i' j' hi' hj' e' u' v'))

    -- of at most j + i and j' + i' entries
    pub written-length :
        (xs ys xs' ys' : List ℕ) (i j i' j' : ℕ) → i < n → j < n → i' < m → j' < m →
        Ups at parent by j xs → Ups at parent by i ys → Ups at' parent' by' j' xs' → Ups at' parent' by' i' ys' →
        length (forth at parent by xs ++ back at parent by ys ++ (forth at' parent' by' xs' ++ back at' parent' by' ys')) ≤ j + i + (j' + i')
    written-length xs ys xs' ys' i j i' j' hi hj hi' hj' u v u' v' =
        omega (
          arith,
          length-append (forth at parent by xs ++ back at parent by ys) (forth at' parent' by' xs' ++ back at' parent' by' ys'),
          length-append (forth at parent by xs) (back at parent by ys),
          length-append (forth at' parent' by' xs') (back at' parent' by' ys'),
          length-forth at parent by xs,
          length_back at parent by ys,
          length-forth at' parent' by' xs',
          length_back at' parent' by' ys',
          length-ups at parent by B c n t xs j hj u,
          length-ups at parent by B c n t ys i hi v,
          length-ups at' parent' by' B (opposite c) m t' xs' j' hj' u',
          length-ups at' parent' by' B (opposite c) m t' ys' i' hi' v',
        )
