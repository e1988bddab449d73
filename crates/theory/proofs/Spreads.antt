-- A spread is what its start reaches; one that has a claim together with its opposite shows that the start reaches its own opposite.
-- Assumes nothing.
use mathlib.Core.Path.{◌≡◌, refl, ◌∙◌, sym}
use mathlib.Core.Bool.{Bool, true, false, Bool-discrete}
use mathlib.Core.Logic.{◌⊎◌, inl, inr}
use Prim.Native.Nat.{ℕ, ◌<◌}
use Rattle.board.specs.Board.{Board, Shows, rows, row, claim, opposite}
use Rattle.board.specs.Walk.{Reaches}
use Rattle.theory.specs.Solve.{Good, Spread}
use mathlib.Core.Logic.Dec.{and as dec_and}
use Rattle.board.proofs.Finite.{dec-below}
use Rattle.board.proofs.Claims.{opposite-zero, both-claims}
use Rattle.board.proofs.Steps.{step-to}
use Rattle.board.proofs.Walks.{reach-along}
use Rattle.theory.proofs.Reach.{clash-reaches}

module _ (B : Board) where
  -- a spread is all that its start reaches
  pub spread-has : {c : ℕ} {In : ℕ → Bool} → Spread B c In → {L : ℕ} → Reaches B c L → In L ≡ true
  spread-has {c} {In} s r = reach-along B (λ L. In L ≡ true) s.closed r s.begins

  -- a claim that is in together with its opposite: the start reaches its own opposite
  pub spread-clash : {c : ℕ} {In : ℕ → Bool} → Spread B c In → (L : ℕ) → In L ≡ true → In (opposite L) ≡ true → Reaches B c (opposite c)
  spread-clash s L i o = clash-reaches B (s.reached L i) (s.reached (opposite L) o)

  -- two spreads from a claim have the same claims
  pub spread-unique : {c : ℕ} {In In' : ℕ → Bool} → Spread B c In → Spread B c In' → (L : ℕ) → In L ≡ In' L
  spread-unique {c} {In} {In'} s t L = go (In L) (In' L) refl refl
    where
      go : (x y : Bool) → In L ≡ x → In' L ≡ y → In L ≡ In' L
      go true y e f = e ∙ sym (spread-has t (s.reached L e))
      go false true e f = spread-has s (t.reached L f) ∙ sym f
      go false false e f = e ∙ sym f

  -- a spread from a row of the board stays on the board
  pub spread_row : Shows B → {c : ℕ} {In : ℕ → Bool} → Spread B c In → row c < rows B → (L : ℕ) → In L ≡ true → row L < rows B
  spread_row ok s h L i = reach-along B (λ K. row K < rows B) (λ K M a k st. step-to B ok st) (s.reached L i) h

  -- a spread has a claim together with its opposite, or is good
  pub good-or-clash : Shows B → {c : ℕ} {In : ℕ → Bool} → Spread B c In → row c < rows B → Good In ⊎ Reaches B c (opposite c)
  good-or-clash ok {c} {In} s h = go (dec-below (λ r. (In (claim r 0) ≡ true) × (In (claim r 1) ≡ true)) (λ r. dec_and (Bool-discrete (In (claim r 0)) true) (Bool-discrete (In (claim r 1)) true)) (rows B))
    where
      go : Dec ((r : ℕ) × (r < rows B) × ((In (claim r 0) ≡ true) × (In (claim r 1) ≡ true))) → Good In ⊎ Reaches B c (opposite c)
      go (yes t) = inr (spread-clash s (claim t.0 0) t.2.0 (rw (opposite-zero t.0) t.2.1))
      go (no n) = inl λ L i o. n (row L, spread_row ok s h L i, both-claims (λ K. In K ≡ true) L i o)

  -- a spread whose start reaches its own opposite is not good
  pub clash-not-good : {c : ℕ} {In : ℕ → Bool} → Spread B c In → Reaches B c (opposite c) → ¬ Good In
  clash-not-good {c} s r good = good c s.begins (spread-has s r)
