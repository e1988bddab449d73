-- Numbers in decimal.
--     decimal-is                     they are what the standard library prints
--     decimal-one, decimal-more      the digits of a number below 10, and of one from 10 on: those of its tenth, and its last
--     decimal-some                   there is a digit
--     decimal-short                  at most k digits below 10 ^ k
--     long-one, long-more            how many digits there are, by the same cases
-- Assumes nothing.
use Rattle.std.proofs.Common.{◌≡◌, ℕ, zero, suc, ◌/◌, ◌%◌, ◌^◌, ◌+◌, ◌<◌, ◌≤◌, ◌⊎◌, List, [], ◌∷◌, ◌++◌, length, length-append, sym, ap, ◌∙◌, inl, inr, ⊎_elim, arith}
use native.Mathlib.Decide.{dec_lt}
use Rattle.std.proofs.lemmas.Fmt.{decimal_from_appends, length-decimal-le_succ}
use Rattle.std.specs.Fmt.{decimal as printed}
use borrow.Author.Tests.{lt-ltb, le-ltb}
use Rattle.text.specs.Decimal.{decimal_in, decimal}

-- a number is below 10 or not
low_or_high : (n : ℕ) → (n < 10) ⊎ (10 ≤ n)
low_or_high n = go (dec_lt n 10)
  where
    go : Dec (n < 10) → (n < 10) ⊎ (10 ≤ n)
    go (yes h) = inl h
    go (no h) = inr (omega arith)

-- the digits where the count is one more: one below 10, and from 10 on those of the tenth and the last
below_one : (k n : ℕ) → n < 10 → decimal_in (suc k) n ≡ (48 + n) ∷ []
unfolding decimal_in
below_one k n h = rw (lt-ltb n 10 h)

below_more : (k n : ℕ) → 10 ≤ n → decimal_in (suc k) n ≡ decimal_in k (n / 10) ++ ((48 + n % 10) ∷ [])
unfolding decimal_in
below_more k n h = rw (le-ltb n 10 h)

-- the digits are the same for every count above the number
same : (j k n : ℕ) → n < j → n < k → decimal_in j n ≡ decimal_in k n
same zero k n h l = absurd (omega arith)
same (suc j) zero n h l = absurd (omega arith)
same (suc j) (suc k) n h l =
    ⊎_elim (λ e. below_one j n e ∙ sym (below_one k n e))
    (λ e. below_more j n e ∙ ap (λ (xs : List ℕ). xs ++ ((48 + n % 10) ∷ [])) (same j k (n / 10) (omega arith) (omega arith)) ∙ sym (below_more k n e))
    (low_or_high n)

pub decimal-is : (n : ℕ) → n < 2 ^ 64 → decimal n ≡ printed n
decimal-is n h = decimal_from_appends decimal_in (record { one = below_one; more = below_more }) (suc n) n h (omega (arith, length-decimal-le_succ n h))

pub decimal-one : (n : ℕ) → n < 10 → decimal n ≡ (48 + n) ∷ []
decimal-one n h = below_one n n h

pub decimal-more : (n : ℕ) → 10 ≤ n → decimal n ≡ decimal (n / 10) ++ ((48 + n % 10) ∷ [])
decimal-more n h = below_more n n h ∙ ap (λ (xs : List ℕ). xs ++ ((48 + n % 10) ∷ [])) (same n (suc (n / 10)) (n / 10) (omega arith) (omega arith))

pub long-one : (n : ℕ) → n < 10 → length (decimal n) ≡ 1
long-one n h = ap length (decimal-one n h)

pub long-more : (n : ℕ) → 10 ≤ n → length (decimal n) ≡ length (decimal (n / 10)) + 1
long-more n h = ap length (decimal-more n h) ∙ length-append (decimal (n / 10)) ((48 + n % 10) ∷ [])

pub decimal-some : (n : ℕ) → 1 ≤ length (decimal n)
decimal-some n = ⊎_elim (λ e. omega (arith, long-one n e)) (λ e. omega (arith, long-more n e)) (low_or_high n)

pub decimal-short : (k n : ℕ) → 1 ≤ k → n < 10 ^ k → length (decimal n) ≤ k
decimal-short zero n h few = absurd (omega arith)
decimal-short (suc zero) n h few = omega (arith, long-one n few)
decimal-short (suc (suc k)) n h few =
    ⊎_elim (λ e. omega (arith, long-one n e)) (λ e. omega (arith, long-more n e, decimal-short (suc k) (n / 10) (omega arith) (omega arith))) (low_or_high n)
