-- The cube of a rule's places: its word part and its part within a word. Assumes nothing.
use mathlib.Core.Path.{◌≡◌, sym, ap, ap₂, ◌∙◌, subst}
use mathlib.Core.Logic.{◌⊎◌, ◌↔◌, inl, inr, ⊎_elim, by_cases}
use mathlib.Core.List.{List}
use Prim.Native.Nat.{ℕ, ◌+◌, ◌-◌, ◌*◌, ◌/◌, ◌%◌, ◌^◌, ◌<◌, ◌≤◌}
use native.Mathlib.Nat.{mul-one, mul-zero}
use native.Mathlib.Decide.{dec_lt, ℕ_discrete}
use native.Mathlib.Omega.{arith}
use lib.Bits.{bit_and, bit_or, and_shr, and_mod, and_le_l, or_zero_r}
use lib.ListN.{get_or}
use lib.Pow.{pow_pos, pow-add, pow_mono}
use Rattle.wires.specs.Wires.{wire}
use Rattle.wires.proofs.Digits.{low_digit, wire-lt, wire-or}
use Rattle.cubes.specs.Cubes.{Part, Fits, Ored, Cube, at}
use Rattle.cubes.proofs.Parts.{part_le, and-within, split, join}

-- ---- how many blocks of 4 words there are

abbrev blocks : ℕ → ℕ
blocks n = 2 ^ (n - 6)

few : (n : ℕ) → n < 6 → 2 ^ n ≤ 32
few n l = pow_mono {j = 5} (omega arith)

few-blocks : (n : ℕ) → n < 6 → blocks n ≡ 1
few-blocks n l = ap (λ (k : ℕ). 2 ^ k) none
  where
    none : n - 6 ≡ 0
    none = omega arith

many : (n : ℕ) → (n < 6 → ⊥) → 2 ^ n ≡ blocks n * 64
many n g = ap (λ (k : ℕ). 2 ^ k) back ∙ pow-add 2 (n - 6) 6
  where
    back : n ≡ n - 6 + 6
    back = omega arith

pub last-is : (n : ℕ) → (2 ^ n - 1) / 64 ≡ blocks n - 1
last-is n =
    by_cases (dec_lt n 6) (λ l. omega (arith, few n l, few-blocks n l)) (λ g. omega (arith, many n g, pow_pos (n - 6)))

-- the word of a combination is in one of the blocks
pub used : (n a : ℕ) → a < 2 ^ n → a / 16 < 4 * blocks n
used n a h = omega (arith, last-is n, pow_pos (n - 6))

pub high-below : (n p : ℕ) → p < 2 ^ (n + 2) → p / 256 < blocks n
high-below n p h =
    by_cases (dec_lt n 6) (λ l. omega (arith, few n l, few-blocks n l, pow-add 2 n 2)) (λ g. omega (arith, many n g, pow-add 2 n 2))

blocks-most : (n : ℕ) → n ≤ 14 → blocks n ≤ 256
blocks-most n l = pow_mono {j = 8} (omega arith)

pub last-most : (n last : ℕ) → n ≤ 14 → last ≡ blocks n - 1 → last < 256
last-most n last l e = omega (arith, blocks-most n l, pow_pos (n - 6))

-- ---- the two parts of a number

pub and-64 : (a b : ℕ) → bit_and a b ≡ bit_and (a / 64) (b / 64) * 64 + bit_and (a % 64) (b % 64)
and-64 a b = omega (arith, and_shr a b 6, and_mod a b 6)

low-64 : (a b : ℕ) → bit_and (a % 64) b < 64
low-64 a b = omega (arith, and_le_l (a % 64) b)

and-4 : (a b : ℕ) → bit_and a b ≡ bit_and (a / 4) (b / 4) * 4 + bit_and (a % 4) (b % 4)
and-4 a b = omega (arith, and_shr a b 2, and_mod a b 2)

low-4 : (a b : ℕ) → bit_and (a % 4) b < 4
low-4 a b = omega (arith, and_le_l (a % 4) b)

part-word : (u f : ℕ) → Part u f → Part (u / 64) (f / 64)
part-word u f h = omega (arith, and-64 u f, low-64 u (f % 64))

pub part_low : (u f : ℕ) → Part u f → Part (u % 64) (f % 64)
part_low u f h = omega (arith, and-64 u f, low-64 u (f % 64))

pub part-row : (u f : ℕ) → Part u f → Part (u / 64 % 4) (f / 64 % 4)
part-row u f h = omega (arith, and-4 (u / 64) (f / 64), low-4 (u / 64) (f / 64 % 4), part-word u f h)

fourth : (a : ℕ) → a / 64 / 4 ≡ a / 256
fourth a = omega arith

pub part-high : (u f : ℕ) → Part u f → Part (u / 256) (f / 256)
part-high u f h = omega (arith, and-4 (u / 64) (f / 64), low-4 (u / 64) (f / 64 % 4), part-word u f h, fourth u, ap₂ bit_and (fourth u) (fourth f))

-- ---- one digit of a word with a pattern added

added : (x y b : ℕ) → wire (bit_or x y) b ≡ 1 → (wire x b ≡ 1) ⊎ (wire y b ≡ 1)
added x y b e = ⊎_elim (λ z. inr (omega (arith, wire-or x y b))) inl (low_digit (x / 2 ^ b))

in_left : (x y b : ℕ) → wire x b ≡ 1 → wire (bit_or x y) b ≡ 1
in_left x y b e = omega (arith, wire-or x y b, wire-lt y b)

in_right : (x y b : ℕ) → wire y b ≡ 1 → wire (bit_or x y) b ≡ 1
in_right x y b e = omega (arith, wire-or x y b, wire-lt x b)

module _ (n fixed up : ℕ) (q : Cube n fixed up) (s t : List ℕ) (pattern rows : ℕ)
    (fits : (b : ℕ) → b < 64 → Fits pattern b (fixed % 64) (up % 64))
    (fits-row : (b : ℕ) → b < 64 → Fits rows b (fixed / 64 % 4) (up / 64 % 4))
    (o : Ored (up / 256) (blocks n - 1 - fixed / 256) pattern rows 0 s t) where
  module _ (p : ℕ) (hp : p < 2 ^ (n + 2)) where
    -- the block of the place, and its word in the block
    whole : 4 * (p / 256) + p / 64 % 4 ≡ p / 64
    whole = omega arith

    block-and : bit_and (p / 64) (fixed / 64) ≡ bit_and (p / 256) (fixed / 256) * 4 + bit_and (p / 64 % 4) (fixed / 64 % 4)
    block-and = and-4 (p / 64) (fixed / 64) ∙ ap (λ (x : ℕ). x * 4 + bit_and (p / 64 % 4) (fixed / 64 % 4)) (ap₂ bit_and (fourth p) (fourth fixed))

    in_block : bit_and (p / 256) (fixed / 256) ≡ up / 256 → get_or t (p / 64) 0 ≡ bit_or (get_or s (p / 64) 0) (pattern * wire rows (p / 64 % 4))
    in_block e =
        subst (λ (w : ℕ). get_or t w 0 ≡ bit_or (get_or s w 0) (pattern * wire rows (p / 64 % 4))) (ap (λ (k : ℕ). 4 * k + p / 64 % 4) sum ∙ whole)
        (o.done (bit_and (p / 256) (blocks n - 1 - fixed / 256)) (and-within (p / 256) (blocks n - 1 - fixed / 256)) (omega arith) (p / 64 % 4) (omega arith))
      where
        sum : up / 256 + bit_and (p / 256) (blocks n - 1 - fixed / 256) ≡ p / 256
        sum = omega (arith, split (n - 6) (p / 256) (fixed / 256) (high-below n p hp) (high-below n fixed q.below))

    out-block : (bit_and (p / 256) (fixed / 256) ≡ up / 256 → ⊥) → get_or t (p / 64) 0 ≡ get_or s (p / 64) 0
    out-block g =
        o.kept (p / 64)
        (λ d h l e. g
        (ap (λ (w : ℕ). bit_and w (fixed / 256)) (sym (fourth p) ∙ e)
        ∙ join (n - 6) (up / 256) d (fixed / 256) (high-below n fixed q.below) (part-high up fixed q.part) h))

    -- the words of the cube are those that have the pattern
    in-word : bit_and (p / 64) (fixed / 64) ≡ up / 64 → get_or t (p / 64) 0 ≡ bit_or (get_or s (p / 64) 0) pattern
    in-word e = in_block high ∙ ap (bit_or (get_or s (p / 64) 0)) (ap (λ (d : ℕ). pattern * d) on ∙ mul-one pattern)
      where
        high : bit_and (p / 256) (fixed / 256) ≡ up / 256
        high = omega (arith, block-and, low-4 (p / 64) (fixed / 64 % 4))

        on : wire rows (p / 64 % 4) ≡ 1
        on = (fits-row (p / 64 % 4) (omega arith)).1 (omega (arith, block-and, low-4 (p / 64) (fixed / 64 % 4)))

    out-word : (bit_and (p / 64) (fixed / 64) ≡ up / 64 → ⊥) → get_or t (p / 64) 0 ≡ get_or s (p / 64) 0
    out-word g = by_cases (ℕ_discrete (bit_and (p / 256) (fixed / 256)) (up / 256)) not_chosen out-block
      where
        not_chosen : bit_and (p / 256) (fixed / 256) ≡ up / 256 → get_or t (p / 64) 0 ≡ get_or s (p / 64) 0
        not_chosen e =
            in_block e
            ∙ ap (bit_or (get_or s (p / 64) 0))
            (ap (λ (d : ℕ). pattern * d) (⊎_elim (λ z. z) (λ h. absurd (g (matches h))) (low_digit (rows / 2 ^ (p / 64 % 4)))) ∙ mul-zero pattern)
            ∙ or_zero_r (get_or s (p / 64) 0)
          where
            matches : wire rows (p / 64 % 4) ≡ 1 → bit_and (p / 64) (fixed / 64) ≡ up / 64
            matches h = omega (arith, block-and, (fits-row (p / 64 % 4) (omega arith)).0 h)

    inside : bit_and (p / 64) (fixed / 64) ≡ up / 64 → (at t p ≡ 1) ↔ ((at s p ≡ 1) ⊎ (bit_and p fixed ≡ up))
    inside e = (there, back)
      where
        there : at t p ≡ 1 → (at s p ≡ 1) ⊎ (bit_and p fixed ≡ up)
        there h =
            ⊎_elim inl (λ y. inr (omega (arith, and-64 p fixed, (fits (p % 64) (omega arith)).0 y)))
            (added (get_or s (p / 64) 0) pattern (p % 64) (ap (λ (x : ℕ). wire x (p % 64)) (sym (in-word e)) ∙ h))

        back : (at s p ≡ 1) ⊎ (bit_and p fixed ≡ up) → at t p ≡ 1
        back c =
            ap (λ (x : ℕ). wire x (p % 64)) (in-word e)
            ∙ ⊎_elim (in_left (get_or s (p / 64) 0) pattern (p % 64))
            (λ h. in_right (get_or s (p / 64) 0) pattern (p % 64)
            ((fits (p % 64) (omega arith)).1 (omega (arith, and-64 p fixed, low-64 p (fixed % 64)))))
            c

    outside : (bit_and (p / 64) (fixed / 64) ≡ up / 64 → ⊥) → (at t p ≡ 1) ↔ ((at s p ≡ 1) ⊎ (bit_and p fixed ≡ up))
    outside g = (
      λ h. inl (ap (λ (x : ℕ). wire x (p % 64)) (sym (out-word g)) ∙ h),
      λ c. ap (λ (x : ℕ). wire x (p % 64)) (out-word g)
          ∙ ⊎_elim (λ h. h) (λ h. absurd (g (omega (arith, and-64 p fixed, low-64 p (fixed % 64))))) c,
    )

  filled : (p : ℕ) → p < 2 ^ (n + 2) → (at t p ≡ 1) ↔ ((at s p ≡ 1) ⊎ (bit_and p fixed ≡ up))
  filled p hp = by_cases (ℕ_discrete (bit_and (p / 64) (fixed / 64)) (up / 64)) (inside p hp) (outside p hp)

pub filled-by : (n fixed up last : ℕ) → Cube n fixed up → last ≡ blocks n - 1 → (s t : List ℕ) (pattern rows : ℕ)
    → ((b : ℕ) → b < 64 → Fits pattern b (fixed % 64) (up % 64)) → ((b : ℕ) → b < 64 → Fits rows b (fixed / 64 % 4) (up / 64 % 4))
    → Ored (up / 256) (last - fixed / 256) pattern rows 0 s t
    → (p : ℕ) → p < 2 ^ (n + 2) → (at t p ≡ 1) ↔ ((at s p ≡ 1) ⊎ (bit_and p fixed ≡ up))
filled-by n fixed up last q e s t pattern rows fits fits-row o =
    filled n fixed up q s t pattern rows fits fits-row (subst (λ (k : ℕ). Ored (up / 256) (k - fixed / 256) pattern rows 0 s t) e o)

-- what the steps of `fill_cube` ask
module _ (n fixed up last : ℕ) (few : n ≤ 14) (q : Cube n fixed up) (e : last ≡ blocks n - 1) where
  pub fixed-last : fixed / 256 ≤ last
  fixed-last = omega (arith, high-below n fixed q.below)

  pub in_table : up / 256 + (last - fixed / 256) < 256
  in_table = omega (arith, fixed-last, part_le (up / 256) (fixed / 256) (part-high up fixed q.part), last-most n last few e)
