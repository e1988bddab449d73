-- The entries of a set, `members`, by the mask's digits.
--     members-none, members-lowest     no entry, and the lowest before the others
--     members-length, members-few      as many as the mask has ones, and no more than it has digits
--     below_all, below-first           which of them are below a limit
-- Assumes nothing.
use mathlib.Core.Path.{◌≡◌, refl, sym, ap, ◌∙◌}
use mathlib.Core.Logic.{⊎_elim}
use mathlib.Core.List.{[], ◌∷◌}
use Prim.Native.Nat.{ℕ, zero, suc, ◌+◌, ◌-◌, ◌*◌, ◌/◌, ◌%◌, ◌^◌, ◌≤◌, ◌<◌}
use native.Mathlib.Nat.{zero-div}
use native.Mathlib.Omega.{arith}
use borrow.Author.Tests.{lt-ltb, le-ltb}
use lib.Count.{ones, ones_step, ones-le, count_trailing_zeros}
use lib.ListN.{length}
use Rattle.std.specs.Prelude.{Ok, Err}
use lib.Pow.{shr-shr}
use Rattle.wires.proofs.Digits.{low_digit, half-below}
use Rattle.wires.proofs.Lowest.{rest, rest-on, rest-off, trailing-on, trailing-off}
use Rattle.writer.specs.declared.Section.{Section}
use Rattle.writer.specs.declared.Amiss.TheVariants.{TooHigh}
use Rattle.writer.specs.JobWritten.{before, members_from}
use Rattle.writer.specs.Writing.{all_below}

-- ---- one digit more

pub members-off : (k p m : ℕ) → m % 2 ≡ 0 → members_from (suc k) p m ≡ members_from k (p + 1) (m / 2)
unfolding members_from
members-off k p m e = ap (λ (d : ℕ). before d p (members_from k (p + 1) (m / 2))) e

pub members-on : (k p m : ℕ) → m % 2 ≡ 1 → members_from (suc k) p m ≡ p ∷ members_from k (p + 1) (m / 2)
unfolding members_from
members-on k p m e = ap (λ (d : ℕ). before d p (members_from k (p + 1) (m / 2))) e

members-twice : (k p m : ℕ) → members_from (suc k) p (m * 2) ≡ members_from k (p + 1) m
members-twice k p m =
    let half : m * 2 / 2 ≡ m = omega arith in
    members-off k p (m * 2) (omega arith) ∙ ap (members_from k (p + 1)) half

whole : (m : ℕ) → m / 2 ^ 0 ≡ m
whole m = omega arith

half-again : (d m : ℕ) → m / 2 ^ suc d ≡ m / 2 / 2 ^ d
half-again d m = sym (shr-shr m 1 d ∙ ap (λ (x : ℕ). m / 2 ^ x) (omega arith))

pub members-none : (k p : ℕ) → members_from k p 0 ≡ []
unfolding members_from
members-none zero p = refl
members-none (suc k) p = members-none k (p + 1)

pub members-lowest : (k p s : ℕ) → 0 < s → s < 2 ^ k → members_from k p s ≡ (p + count_trailing_zeros k s) ∷ members_from k p (rest s)
members-lowest zero p s l h = absurd (omega arith)
members-lowest (suc k) p s l h =
    ⊎_elim
    (λ e. let place : p + 1 + count_trailing_zeros k (s / 2) ≡ p + count_trailing_zeros (suc k) s = omega (arith, trailing-off k s e) in
    members-off k p s e
    ∙ members-lowest k (p + 1) (s / 2) (omega arith) (half-below k h)
    ∙ (λ i. place i ∷ sym (ap (members_from (suc k) p) (rest-off s e l) ∙ members-twice k p (rest (s / 2))) i))
    (λ e. let place : p ≡ p + count_trailing_zeros (suc k) s = omega (arith, trailing-on k s e) in
    members-on k p s e
    ∙ (λ i. place i ∷ sym (ap (members_from (suc k) p) (rest-on s e) ∙ members-twice k p (s / 2)) i))
    (low_digit s)

pub members-length : (k p m : ℕ) → m < 2 ^ k → length (members_from k p m) ≡ ones m
unfolding members_from
members-length zero p m h = omega (arith, ones-le 0 m h)
members-length (suc k) p m h =
    let ih = members-length k (p + 1) (m / 2) (half-below k h) in
    ⊎_elim (λ e. ap length (members-off k p m e) ∙ omega (arith, ih, ones_step m))
    (λ e. ap length (members-on k p m e) ∙ omega (arith, ih, ones_step m))
    (low_digit m)

-- and never more than the digits that are looked at
pub members-few : (k p m : ℕ) → length (members_from k p m) ≤ k
unfolding members_from
members-few zero p m = omega arith
members-few (suc k) p m =
    let ih = members-few k (p + 1) (m / 2) in
    ⊎_elim (λ e. omega (arith, ih, ap length (members-off k p m e))) (λ e. omega (arith, ih, ap length (members-on k p m e))) (low_digit m)

-- ---- below a limit

pub ones-high : (d m : ℕ) → ones (m / 2 ^ d) ≤ ones m
ones-high zero m = omega (arith, ap ones (whole m))
ones-high (suc d) m = omega (arith, ones-high d (m / 2), ap ones (half-again d m), ones_step m)

module _ (section : Section) (place : ℕ → ℕ) where
  pub below_all : (k p d i m : ℕ) → m < 2 ^ k → m / 2 ^ d ≡ 0 → all_below (p + d) section place i (members_from k p m) ≡ Ok tt
  unfolding all_below members_from
  below_all zero p d i m h z = refl
  below_all (suc k) p zero i m h z =
      let none : m ≡ 0 = sym (whole m) ∙ z in
      ap (λ (x : ℕ). all_below (p + 0) section place i (members_from (suc k) p x)) none ∙ ap (all_below (p + 0) section place i) (members-none (suc k) p)
  below_all (suc k) p (suc d) i m h z =
      let limit : p + suc d ≡ p + 1 + d = omega arith in
      let ih : (i : ℕ) → all_below (p + 1 + d) section place i (members_from k (p + 1) (m / 2)) ≡ Ok tt = λ i. below_all k (p + 1) d i (m / 2) (half-below k h) (sym (half-again d m) ∙ z) in
      ap (λ (x : ℕ). all_below x section place i (members_from (suc k) p m)) limit
      ∙ ⊎_elim (λ e. ap (all_below (p + 1 + d) section place i) (members-off k p m e) ∙ ih i)
      (λ e. ap (all_below (p + 1 + d) section place i) (members-on k p m e) ∙ rw (lt-ltb p (p + 1 + d) (omega arith)) (ih (i + 1)))
      (low_digit m)

  pub below-first : (k p d i m : ℕ) → m < 2 ^ k → 0 < m / 2 ^ d
      → all_below (p + d) section place i (members_from k p m) ≡ Err (TooHigh section (place (i + (ones m - ones (m / 2 ^ d)))))
  unfolding all_below
  below-first zero p d i m h l =
      let none : m ≡ 0 = omega arith in
      absurd (omega (arith, ap (λ (x : ℕ). x / 2 ^ d) none, zero-div (2 ^ d)))
  below-first (suc k) p zero i m h l =
      let all : m / 2 ^ 0 ≡ m = whole m in
      let at : i + (ones m - ones (m / 2 ^ 0)) ≡ i = omega (arith, ap ones all) in
      ap (all_below (p + 0) section place i) (members-lowest (suc k) p m (omega arith) h)
      ∙ rw (le-ltb (p + count_trailing_zeros (suc k) m) (p + 0) (omega arith)) (ap (λ (x : ℕ). Err (TooHigh section (place x))) (sym at))
  below-first (suc k) p (suc d) i m h l =
      let limit : p + suc d ≡ p + 1 + d = omega arith in
      let halves : m / 2 ^ suc d ≡ m / 2 / 2 ^ d = half-again d m in
      let same : ones (m / 2 ^ suc d) ≡ ones (m / 2 / 2 ^ d) = ap ones halves in
      let ih : (i : ℕ) → all_below (p + 1 + d) section place i (members_from k (p + 1) (m / 2)) ≡ Err (TooHigh section (place (i + (ones (m / 2) - ones (m / 2 / 2 ^ d))))) = λ i. below-first k (p + 1) d i (m / 2) (half-below k h) (omega arith) in
      ap (λ (x : ℕ). all_below x section place i (members_from (suc k) p m)) limit
      ∙ ⊎_elim
      (λ e. let at : i + (ones (m / 2) - ones (m / 2 / 2 ^ d)) ≡ i + (ones m - ones (m / 2 ^ suc d)) = omega (arith, same, ones_step m) in
      ap (all_below (p + 1 + d) section place i) (members-off k p m e) ∙ ih i ∙ ap (λ (x : ℕ). Err (TooHigh section (place x))) at)
      (λ e. let at : i + 1 + (ones (m / 2) - ones (m / 2 / 2 ^ d)) ≡ i + (ones m - ones (m / 2 ^ suc d)) = omega (arith, same, ones_step m, ones-high d (m / 2)) in
      ap (all_below (p + 1 + d) section place i) (members-on k p m e)
      ∙ rw (lt-ltb p (p + 1 + d) (omega arith)) (ih (i + 1) ∙ ap (λ (x : ℕ). Err (TooHigh section (place x))) at))
      (low_digit m)
