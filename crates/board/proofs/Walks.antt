-- Truth is carried along a walk, so where a walk stands no pair fits.
-- Assumes nothing.
use mathlib.Core.Path.{◌≡◌, ◌∙◌, sym, ap, subst}
use mathlib.Core.List.{List, [], ◌∷◌}
use mathlib.Core.Logic.{◌⊎◌, inl, inr}
use Prim.Native.Nat.{ℕ, ◌-◌}
use native.Mathlib.Omega.{arith}
use Rattle.board.specs.Board.{Board, Shows, row, value, opposite}
use Rattle.board.specs.Tables.{held, True, Pair}
use Rattle.answer.specs.Answer.{Entry}
use Rattle.board.specs.Walk.{Carries, Step, Among, start, Goes, Stands, Reaches}
use Rattle.board.proofs.Claims.{value-bit, row-opposite, value-opposite, bit-cases}
use Rattle.board.proofs.Steps.{step_from, fits-iff-carries}

-- a claim and its opposite are not both true
pub not-both : (T : List ℕ) (L : ℕ) → True T L → True T (opposite L) → ⊥
not-both T L t o = omega (arith, sym (ap (held T) (row-opposite L)) ∙ o)

-- a claim of which the row holds the other bit has a true opposite
pub opposite-true : (T : List ℕ) (L : ℕ) → held T (row L) ≡ 1 - value L → True T (opposite L)
opposite-true T L e = ap (held T) (row-opposite L) ∙ e ∙ sym (value-opposite L)

-- what every step carries, a walk carries: from its beginning to each of its claims, and from each of its claims to its end
module _ (B : Board) (P : ℕ → Type 0) (carries : (L M a : ℕ) → P L → Step B L M a → P M) where
  pub along : (es : List Entry) (M : ℕ) → Goes B es M → P (start es M) → P M
  along [] M g t = t
  along (e ∷ es) M g t = along es M g.1 (carries e.says (start es M) e.by t g.0)

  pub from-among : (c : ℕ) (es : List Entry) (M : ℕ) → Goes B es M → Among c es → P c → P M
  from-among c [] M g m t = absurd m
  from-among c (e ∷ es) M g (inl p) t = along (e ∷ es) M g (subst P p t)
  from-among c (e ∷ es) M g (inr m) t = from-among c es M g.1 m t

  pub to-among : (c : ℕ) (es : List Entry) (M : ℕ) → Goes B es M → Among c es → P (start es M) → P c
  to-among c [] M g m t = absurd m
  to-among c (e ∷ es) M g (inl p) t = subst P (sym p) t
  to-among c (e ∷ es) M g (inr m) t = to-among c es M g.1 m (carries e.says (start es M) e.by t g.0)

  pub reach-along : {L M : ℕ} → Reaches B L M → P L → P M
  reach-along {L} {M} r t = along r.entries M r.goes (subst P (sym r.begins) t)

-- if a walk stands, no pair fits
pub soundness : (B : Board) → Shows B → (w : List Entry) → Stands B w → (T : List ℕ) → Pair B T → ⊥
soundness B ok [] s T p = s
soundness B ok (e ∷ es) s T p = go (bit-cases (held T (row c)) (value c) (p.tables.bits (row c) (step_from B ok s.0.0)) (value-bit c))
  where
    c : ℕ
    c = e.says

    carries : Carries B T
    carries = (fits-iff-carries B ok T p.tables).0 p.fits

    go : (held T (row c) ≡ value c) ⊎ (held T (row c) ≡ 1 - value c) → ⊥
    go (inl t) = not-both T c t (to-among B (True T) carries (opposite c) (e ∷ es) c s.0 s.1 t)
    go (inr f) = let o : True T (opposite c) = opposite-true T c f in not-both T c (from-among B (True T) carries (opposite c) (e ∷ es) c s.0 s.1 o) o
