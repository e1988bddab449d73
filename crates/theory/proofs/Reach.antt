-- What reaches what: reaching is reflexive and transitive, comes in pairs as steps do, and two claims that reach each other's opposites make a walk that stands.
-- Assumes nothing.
use mathlib.Core.Path.{◌≡◌, refl, ◌∙◌, sym, ap, subst}
use mathlib.Core.List.{List, [], ◌∷◌, ◌++◌}
use mathlib.Core.Logic.{◌≢◌, inl, inr}
use Prim.Native.Nat.{ℕ, suc, ◌+◌, ◌≤◌}
use native.Mathlib.Omega.{arith}
use lib.ListN.{length, length-append}
use Rattle.board.specs.Board.{Board, opposite}
use Rattle.answer.specs.Answer.{Entry}
use Rattle.board.specs.Walk.{Step, Among, start, Goes, Stands, Reaches, Within}
use Rattle.board.proofs.Claims.{opposite-opposite}
use Rattle.board.proofs.Steps.{contraposition}

pub start-append : (es fs : List Entry) (M : ℕ) → start (es ++ fs) M ≡ start es (start fs M)
start-append [] fs M = refl
start-append (e ∷ es) fs M = refl

pub among-right : (c : ℕ) (es fs : List Entry) → Among c fs → Among c (es ++ fs)
among-right c [] fs m = m
among-right c (e ∷ es) fs m = inr (among-right c es fs m)

-- a list of entries that begins elsewhere than at its end has its beginning among its claims
pub start-among : (es : List Entry) (M c : ℕ) → start es M ≡ c → c ≢ M → Among c es
start-among [] M c p n = n (sym p)
start-among (e ∷ es) M c p n = inl (sym p)

-- the entries of a list that leads to M, backwards and by the opposite claims: they lead from the opposite of M
pub backwards : List Entry → ℕ → List Entry
backwards [] M = []
backwards (e ∷ es) M = backwards es M ++ (record { says = opposite (start es M); by = e.by } ∷ [])

pub length-backwards : (es : List Entry) (M : ℕ) → length (backwards es M) ≡ length es
unfolding backwards
length-backwards [] M = refl
length-backwards (e ∷ es) M = omega (arith, length-append (backwards es M) (record { says = opposite (start es M); by = e.by } ∷ []), length-backwards es M)

pub start-backwards : (es : List Entry) (M : ℕ) → start (backwards es M) (opposite (start es M)) ≡ opposite M
unfolding backwards
start-backwards [] M = refl
start-backwards (e ∷ es) M = start-append (backwards es M) (record { says = opposite (start es M); by = e.by } ∷ []) (opposite e.says) ∙ start-backwards es M

module _ (B : Board) where
  pub goes-append : (es fs : List Entry) (M : ℕ) → Goes B es (start fs M) → Goes B fs M → Goes B (es ++ fs) M
  goes-append [] fs M g h = h
  goes-append (e ∷ es) fs M g h = (rw (start-append es fs M) g.0, goes-append es fs M g.1 h)

  pub goes-backwards : (es : List Entry) (M : ℕ) → Goes B es M → Goes B (backwards es M) (opposite (start es M))
  unfolding backwards
  goes-backwards [] M g = tt
  goes-backwards (e ∷ es) M g =
      goes-append (backwards es M) (record { says = opposite (start es M); by = e.by } ∷ []) (opposite e.says) (goes-backwards es M g.1) (contraposition B g.0, tt)

  pub reach-refl : (L : ℕ) → Reaches B L L
  reach-refl L = record { entries = []; begins = refl; goes = tt }

  pub reach_step : {L K M a : ℕ} → Step B L K a → Reaches B K M → Reaches B L M
  reach_step {L} {K} {M} {a} s r =
      record { entries = record { says = L; by = a } ∷ r.entries; begins = refl; goes = (rw r.begins s, r.goes) }

  pub reach-trans : {L K M : ℕ} → Reaches B L K → Reaches B K M → Reaches B L M
  reach-trans {L} {K} {M} r s =
      record {
        entries = r.entries ++ s.entries;
        begins = start-append r.entries s.entries M ∙ ap (start r.entries) s.begins ∙ r.begins;
        goes = goes-append r.entries s.entries M (rw s.begins r.goes) s.goes;
      }

  pub reach-contraposition : {L M : ℕ} → Reaches B L M → Reaches B (opposite M) (opposite L)
  reach-contraposition {L} {M} r =
      record {
        entries = backwards r.entries M;
        begins = subst (λ (K : ℕ). start (backwards r.entries M) (opposite K) ≡ opposite M) r.begins (start-backwards r.entries M);
        goes = subst (λ (K : ℕ). Goes B (backwards r.entries M) (opposite K)) r.begins (goes-backwards r.entries M r.goes);
      }

  -- the same entries, between equal claims
  unfoldable pub reach-cast : {L L' M M' : ℕ} → L ≡ L' → M ≡ M' → Reaches B L M → Reaches B L' M'
  reach-cast p q r =
      record {
        entries = r.entries;
        begins = ap (start r.entries) (sym q) ∙ r.begins ∙ p;
        goes = subst (Goes B r.entries) q r.goes;
      }

  -- what reaches a claim and its opposite reaches its own opposite
  pub clash-reaches : {L M : ℕ} → Reaches B L M → Reaches B L (opposite M) → Reaches B L (opposite L)
  clash-reaches {L} {M} r s = reach-trans r (reach-cast (opposite-opposite M) refl (reach-contraposition s))

  -- the same with a count of the steps
  pub within-refl : (L : ℕ) → Within B 0 L L
  unfolding reach-refl
  within-refl L = record { reaches = reach-refl L; short = omega arith }

  pub within_step : {n L K M a : ℕ} → Step B L K a → Within B n K M → Within B (suc n) L M
  unfolding reach_step
  within_step s w = record { reaches = reach_step s w.reaches; short = omega (arith, w.short) }

  pub within-trans : {n m L K M : ℕ} → Within B n L K → Within B m K M → Within B (n + m) L M
  unfolding reach-trans
  within-trans v w =
      record {
        reaches = reach-trans v.reaches w.reaches;
        short = omega (arith, v.short, w.short, length-append v.reaches.entries w.reaches.entries);
      }

  pub within-cast : {n m L L' M M' : ℕ} → n ≤ m → L ≡ L' → M ≡ M' → Within B n L M → Within B m L' M'
  unfolding reach-cast
  within-cast h p q w = record { reaches = reach-cast p q w.reaches; short = omega (arith, w.short) }

  pub within-contraposition : {n L M : ℕ} → Within B n L M → Within B n (opposite M) (opposite L)
  unfolding reach-contraposition
  within-contraposition {M = M} w =
      record { reaches = reach-contraposition w.reaches; short = omega (arith, w.short, length-backwards w.reaches.entries M) }

  pub clash-within : {n m L M : ℕ} → Within B n L M → Within B m L (opposite M) → Within B (n + m) L (opposite L)
  clash-within {n} {m} {L} {M} v w = within-trans v (within-cast (omega arith) (opposite-opposite M) refl (within-contraposition w))

  closing : (c d : ℕ) → opposite c ≡ d → (es fs : List Entry) → start es d ≡ c → Goes B es d → start fs c ≡ d → Goes B fs c → Stands B (es ++ fs)
  closing c d o [] fs p g q h = absurd (omega arith)
  closing c d o (e ∷ es) fs p g q h = (
    subst (λ (K : ℕ). Goes B (e ∷ (es ++ fs)) K) (sym p) (goes-append (e ∷ es) fs c (subst (Goes B (e ∷ es)) (sym q) g) h),
    inr (among-right (opposite e.says) es fs (start-among fs c (opposite e.says) (q ∙ sym o ∙ ap opposite (sym p)) (omega arith))),
  )

  -- two opposite claims that reach each other: the two step lists, one after the other, are a walk that stands
  pub closed-walk : {c d : ℕ} → opposite c ≡ d → (r : Reaches B c d) (s : Reaches B d c) → Stands B (r.entries ++ s.entries)
  closed-walk {c} {d} o r s = closing c d o r.entries s.entries r.begins r.goes s.begins s.goes
