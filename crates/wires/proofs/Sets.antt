-- Sets as masks: one contains another, and whether some set of a list is contained.
--     or_cases, or_left, or_right             a test of two, of which one is enough
--     same_test                               two tests that are true together are the same
--     contains-iff                            a set contains another, by the test
--     some_to, some-from                      some set of a list is contained, by the test
--     wire-value, same_true                   a term of wires is true whatever the cells have
--     excuse-within                           an excuse holds where the set of the true terms contains it
--     empty-excuses, both-never               the empty excuse always holds, and one with a term and its negation never
-- Assumes nothing.
use Rattle.std.proofs.Common.{◌≡◌, ℕ, zero, suc, ◌+◌, ◌*◌, ◌/◌, ◌%◌, ◌^◌, ◌<◌, Bool, true, false, ◌||◌, ◌⊎◌, ◌↔◌, List, [], ◌∷◌, length, get_or, sym, refl, ap, ◌∙◌, inl, inr, ⊎_elim, arith, lt-ltb, eq-eqb, eqb-true}
use mathlib.Core.Bool.{false≢true}
use mathlib.Core.Logic.{by_cases}
use native.Mathlib.Decide.{dec_lt}
use lib.Arith.{bin_ind}
use lib.Bits.{bit_and, and_step, and_zero_l}
use Rattle.wires.specs.Wires.{wire}
use Rattle.wires.specs.Terms.{value, IsTrue, Truths, Excuses, Contains, containsb, some_within}
use Rattle.wires.proofs.Digits.{low_digit, wire-low, wire-high, wire-and, wire-lt, wire-none, wire-zero}

pub or_cases : (a b : Bool) → a || b ≡ true → (a ≡ true) ⊎ (b ≡ true)
or_cases true b e = inl refl
or_cases false b e = inr e

pub or_left : (a b : Bool) → a ≡ true → a || b ≡ true
or_left a b e = rw e

pub or_right : (a b : Bool) → b ≡ true → a || b ≡ true
or_right true b e = refl
or_right false b e = e

pub same_test : (p q : Bool) → (p ≡ true → q ≡ true) → (q ≡ true → p ≡ true) → p ≡ q
same_test true q f g = sym (f refl)
same_test false true f g = g refl
same_test false false f g = refl

-- ---- the tests decide the meaning

contains-to : (r s : ℕ) → containsb r s ≡ true → Contains r s
contains-to r s e t h =
    let same : wire (bit_and s r) t ≡ wire s t = ap (λ (x : ℕ). wire x t) (eqb-true (bit_and s r) s e) in
    omega (arith, wire-and s r t, wire-lt r t)

-- a set that contains s keeps all of s
keeps : (s r : ℕ) → Contains r s → bit_and s r ≡ s
keeps =
    bin_ind (λ (s : ℕ). (r : ℕ) → Contains r s → bit_and s r ≡ s) (λ r h. and_zero_l r)
    (λ s ih r h.
    let high : bit_and (s / 2) (r / 2) ≡ s / 2 = ih (r / 2) (λ t e. sym (wire-high r t) ∙ h (suc t) (wire-high s t ∙ e)) in
    ⊎_elim (λ e. omega (arith, and_step s r)) (λ e. let low : r % 2 ≡ 1 = sym (wire-low r) ∙ h zero (wire-low s ∙ e) in omega (arith, and_step s r))
    (low_digit s))

pub contains-iff : (r s : ℕ) → (containsb r s ≡ true) ↔ Contains r s
contains-iff r s = (contains-to r s, λ h. eq-eqb (bit_and s r) s (keeps s r h))

-- set k of the list is contained in r
abbrev pub Within : List ℕ → ℕ → Type 0
Within ss r = (k : ℕ) × (k < length ss) × Contains r (get_or ss k 0)

pub some_to : (ss : List ℕ) (r : ℕ) → some_within ss r ≡ true → Within ss r
unfolding some_within
some_to [] r e = absurd (false≢true e)
some_to (s ∷ ss) r e =
    let ih = some_to ss r in
    ⊎_elim (λ h. (0, omega arith, contains-to r s h)) (λ h. let w = ih h in (suc w.0, omega arith, w.2)) (or_cases (containsb r s) (some_within ss r) e)

pub some-from : (ss : List ℕ) (r k : ℕ) → k < length ss → Contains r (get_or ss k 0) → some_within ss r ≡ true
unfolding some_within
some-from [] r k l h = absurd (omega arith)
some-from (s ∷ ss) r zero l h = or_left (containsb r s) (some_within ss r) ((contains-iff r s).1 h)
some-from (s ∷ ss) r (suc k) l h = or_right (containsb r s) (some_within ss r) (some-from ss r k (omega arith) h)

-- ---- an excuse and the set of the true terms

-- a wire's value is the same whatever the cells have
pub wire-value : (n a x y v : ℕ) → v < n → value n a x y v ≡ wire a v
unfolding value
wire-value n a x y v l = rw (lt-ltb v n l)

pub same_true : (n a x y z w t : ℕ) → t < 2 * n → IsTrue n a x y t → IsTrue n a z w t
same_true n a x y z w t l =
    let half : t / 2 < n = omega arith in
    let same : value n a z w (t / 2) ≡ value n a x y (t / 2) = wire-value n a z w (t / 2) half ∙ sym (wire-value n a x y (t / 2) half) in
    ⊎_elim (λ p. inl (p.0, same ∙ p.1)) (λ p. inr (p.0, same ∙ p.1))

pub excuse-within : (n a x y excuse set : ℕ) → Truths n a x y set → excuse < 2 ^ (2 * n) → Contains set excuse ↔ Excuses n a excuse
excuse-within n a x y excuse set t small = (there, back)
  where
    there : Contains set excuse → Excuses n a excuse
    there c k l h = same_true n a x y 0 0 k l ((t.each k (omega arith)).0 (c k h))

    back : Excuses n a excuse → Contains set excuse
    back e k h =
        by_cases (dec_lt k (2 * n)) (λ l. (t.each k (omega arith)).1 (same_true n a 0 0 x y k l (e k l h)))
        (λ g. omega (arith, wire-none (2 * n) k small (omega arith)))

pub empty-excuses : (n a : ℕ) → Excuses n a 0
empty-excuses n a t l h = absurd (omega (arith, h, wire-zero t))

pub both-never : (n a excuse v : ℕ) → v < n → wire excuse (2 * v) ≡ 1 → wire excuse (2 * v + 1) ≡ 1 → Excuses n a excuse → ⊥
both-never n a excuse v l plain negated e =
    let half : 2 * v / 2 ≡ v = omega arith in
    let other : (2 * v + 1) / 2 ≡ v = omega arith in
    ⊎_elim
    (λ p. ⊎_elim (λ q. omega (arith, q.0)) (λ q. omega (arith, sym (ap (value n a 0 0) half) ∙ p.1, sym (ap (value n a 0 0) other) ∙ q.1)) (e (2 * v + 1) (omega arith) negated))
    (λ p. omega (arith, p.0))
    (e (2 * v) (omega arith) plain)
