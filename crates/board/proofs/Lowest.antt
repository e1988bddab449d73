-- The lowest number that passes a test.
--     lowest-at, lowest-least, lowest-most     it passes, none below it does, and it is at most n
--     lowest-is                                a number that passes, with none below it that does, is the lowest
--     lowest-same                              two tests that agree below n have the same
--     lowest-none                              where none passes it is n
--     each-below, one-below                    what is told of the items of the range of the numbers below n, told of the numbers
--     lowest-found                             what `find` tells of that range is the lowest
-- Assumes nothing.
use mathlib.Core.Path.{◌≡◌, refl, sym, subst, ◌∙◌}
use mathlib.Core.Bool.{Bool, true, false, false≢true}
use mathlib.Core.Logic.{by_cases}
use Prim.Native.Nat.{ℕ, zero, suc, ◌+◌, ◌<◌, ◌≤◌}
use native.Mathlib.Decide.{dec_lt}
use native.Mathlib.Omega.{arith}
use Rattle.std.specs.Prelude.{Option, Some, None, MatchOption, IfSome, length, get_or}
use Rattle.std.specs.Option.{unwrap_or}
use Rattle.std.specs.List.{range_with_len, AllWithin, HoldsAt}
use Rattle.std.proofs.lemmas.List.FromFn.{length-range_with_len, get_or-range_with_len}
use Rattle.board.specs.Tests.{first_from, lowest}

-- ---- the first of k numbers from i on

pub first-most : (p : ℕ → Bool) (i k : ℕ) → first_from p i k ≤ i + k
unfolding first_from
first-most p i zero = omega arith
first-most p i (suc k) = let ih = first-most p (i + 1) k in grind (arith, ih)

pub first-at : (p : ℕ → Bool) (i k : ℕ) → first_from p i k < i + k → p (first_from p i k) ≡ true
unfolding first_from
first-at p i zero l = absurd (omega arith)
first-at p i (suc k) l = let ih = first-at p (i + 1) k in grind (arith, ih)

pub first-least : (p : ℕ → Bool) (i k j : ℕ) → i ≤ j → j < first_from p i k → p j ≡ false
unfolding first_from
first-least p i zero j l h = absurd (omega arith)
first-least p i (suc k) j l h = let ih = first-least p (i + 1) k j in grind (arith, ih)

pub first-same : (p q : ℕ → Bool) (i k : ℕ) → ((j : ℕ) → i ≤ j → j < i + k → p j ≡ q j) → first_from p i k ≡ first_from q i k
unfolding first_from
first-same p q i zero h = refl
first-same p q i (suc k) h =
    let ih = first-same p q (i + 1) k (λ j l g. h j (omega arith) (omega arith)) in
    let here = h i (omega arith) (omega arith) in grind (arith, ih, here)

-- ---- the lowest below n

module _ (p : ℕ → Bool) (n : ℕ) where
  pub lowest-at : lowest p n < n → p (lowest p n) ≡ true
  lowest-at l = first-at p 0 n (omega arith)

  pub lowest-least : (i : ℕ) → i < lowest p n → p i ≡ false
  lowest-least i l = first-least p 0 n i (omega arith) l

  pub lowest-most : lowest p n ≤ n
  lowest-most = omega (arith, first-most p 0 n)

pub lowest-is : (p : ℕ → Bool) (n i : ℕ) → i < n → p i ≡ true → ((j : ℕ) → j < i → p j ≡ false) → i ≡ lowest p n
lowest-is p n i l e none =
    let past : i < lowest p n → ⊥ = λ h. false≢true (sym (lowest-least p n i h) ∙ e) in
    let before : lowest p n < i → ⊥ = λ h. false≢true (sym (none (lowest p n) h) ∙ lowest-at p n (omega arith)) in
    omega arith

pub lowest-none : (p : ℕ → Bool) (n : ℕ) → ((i : ℕ) → i < n → p i ≡ false) → lowest p n ≡ n
lowest-none p n h =
    by_cases (dec_lt (lowest p n) n) (λ l. absurd (false≢true (sym (h (lowest p n) l) ∙ lowest-at p n l)))
    (λ ge. omega (arith, lowest-most p n))

pub lowest-same : (p q : ℕ → Bool) (n : ℕ) → ((i : ℕ) → i < n → p i ≡ q i) → lowest p n ≡ lowest q n
lowest-same p q n h = first-same p q 0 n (λ j l g. h j (omega arith))

-- ---- what `find` tells of the numbers below n

-- a fact of each item of the range is one of each number
pub each-below : (P : ℕ → Type 0) (n m : ℕ) → AllWithin P (range_with_len 0 n) 0 m → m ≤ n → (i : ℕ) → i < m → P i
each-below P n m h le i l =
    let lt : i < n = omega arith in
    let e : get_or (range_with_len 0 n) i 0 ≡ i = omega (arith, get_or-range_with_len 0 n i 0 lt) in
    subst P e (h i 0 (omega arith) l)

-- and what holds of one item holds of its number
pub one-below : (P : ℕ → Type 0) (n i : ℕ) → i < length (range_with_len 0 n) → HoldsAt P (range_with_len 0 n) i → (i < n) × P i
one-below P n i l h =
    let lt : i < n = omega (arith, length-range_with_len 0 n) in
    let e : get_or (range_with_len 0 n) i 0 ≡ i = omega (arith, get_or-range_with_len 0 n i 0 lt) in
    (lt, subst P e (h 0))

-- the first item that passes, if one does
pub lowest-found : (p : ℕ → Bool) (n : ℕ) (r : Option ℕ)
    → MatchOption r (AllWithin (λ i. p i ≡ false) (range_with_len 0 n) 0 (length (range_with_len 0 n)))
    (λ x. (p x ≡ true) × (i : ℕ) × (i < length (range_with_len 0 n)) × HoldsAt (λ y. y ≡ x) (range_with_len 0 n) i × AllWithin (λ i. p i ≡ false) (range_with_len 0 n) 0 i)
    → IfSome r (λ k. k < n) × (unwrap_or r n ≡ lowest p n)
lowest-found p n None h = (tt, sym (lowest-none p n (each-below (λ i. p i ≡ false) n n (rw length-range_with_len at h) (omega arith))))
lowest-found p n (Some k) h =
    let t = one-below (λ y. y ≡ k) n h.1 h.2 h.3 in
    let same : h.1 ≡ k = t.1 in
    let lt : k < n = omega (arith, t.0) in
    (lt, lowest-is p n k lt h.0 (rw same at (each-below (λ i. p i ≡ false) n h.1 h.4 (omega (arith, t.0)))))
