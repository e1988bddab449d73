-- Claims and their opposites, as numbers.
-- Assumes nothing.
use mathlib.Core.Path.{◌≡◌, ◌∙◌, sym, ap, subst}
use mathlib.Core.List.{List}
use Prim.Native.Nat.{ℕ, ◌-◌, ◌<◌}
use mathlib.Core.Logic.{◌⊎◌, inl, inr}
use native.Mathlib.Decide.{ℕ_discrete}
use native.Mathlib.Omega.{arith}
use Rattle.board.specs.Board.{row, value, claim, opposite}
use Rattle.board.specs.Tables.{held, True}

pub value-bit : (L : ℕ) → value L < 2
value-bit L = omega arith

pub row-opposite : (L : ℕ) → row (opposite L) ≡ row L
row-opposite L = omega arith

pub value-opposite : (L : ℕ) → value (opposite L) ≡ 1 - value L
value-opposite L = omega arith

pub opposite-opposite : (L : ℕ) → opposite (opposite L) ≡ L
opposite-opposite L = omega arith

pub row-claim : (r v : ℕ) → v < 2 → row (claim r v) ≡ r
row-claim r v h = omega arith

pub value-claim : (r v : ℕ) → v < 2 → value (claim r v) ≡ v
value-claim r v h = omega arith

pub claim-row : (L : ℕ) → claim (row L) (value L) ≡ L
claim-row L = omega arith

pub flip-flip : (v : ℕ) → v < 2 → 1 - (1 - v) ≡ v
flip-flip v h = omega arith

pub opposite-zero : (r : ℕ) → opposite (claim r 0) ≡ claim r 1
opposite-zero r = omega arith

pub opposite-one : (r : ℕ) → opposite (claim r 1) ≡ claim r 0
opposite-one r = omega arith

pub flip-opposite : (L : ℕ) → 1 - value (opposite L) ≡ value L
flip-opposite L = omega arith

-- a bit is v or the other one
pub bit-cases : (x v : ℕ) → x < 2 → v < 2 → (x ≡ v) ⊎ (x ≡ 1 - v)
bit-cases x v h k = elim (ℕ_discrete x v) [ yes e ↦ inl e | no n ↦ inr (omega arith) ]

-- a row that holds v makes its claim of v true, and the other way round
pub true-claim : (T : List ℕ) (r v : ℕ) → v < 2 → held T r ≡ v → True T (claim r v)
true-claim T r v h e = ap (held T) (row-claim r v h) ∙ e ∙ sym (value-claim r v h)

pub claim-true : (T : List ℕ) (r v : ℕ) → v < 2 → True T (claim r v) → held T r ≡ v
claim-true T r v h t = sym (ap (held T) (row-claim r v h)) ∙ t ∙ value-claim r v h

-- a claim and its opposite are the two claims of a row
pub claim-cases : (L : ℕ) → ((L ≡ claim (row L) 0) × (opposite L ≡ claim (row L) 1)) ⊎ ((L ≡ claim (row L) 1) × (opposite L ≡ claim (row L) 0))
claim-cases L = elim (ℕ_discrete (value L) 0) [ yes e ↦ inl (omega arith) | no ne ↦ inr (omega arith) ]

pub both-claims : (P : ℕ → Type 0) (L : ℕ) → P L → P (opposite L) → P (claim (row L) 0) × P (claim (row L) 1)
both-claims P L p o =
    elim (claim-cases L) [ inl t ↦ (subst P t.0 p, subst P t.1 o) | inr t ↦ (subst P t.1 o, subst P t.0 p) ]

-- two claims of one row are the same or opposite
pub same_row : (L M : ℕ) → row L ≡ row M → (L ≡ M) ⊎ (L ≡ opposite M)
same_row L M e = elim (ℕ_discrete L M) [ yes h ↦ inl h | no n ↦ inr (omega arith) ]

pub not-own-opposite : (L : ℕ) → L ≡ opposite L → ⊥
not-own-opposite L e = omega arith

pub opposite-claim : (r v : ℕ) → v < 2 → opposite (claim r v) ≡ claim r (1 - v)
opposite-claim r v h = omega arith
