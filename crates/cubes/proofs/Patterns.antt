-- The numbers below 64 that have given values at given digits, as the digits of a word. Assumes nothing.
use mathlib.Core.Path.{◌≡◌, sym, ap, ◌∙◌, subst}
use mathlib.Core.Bool.{Bool, true, false}
use mathlib.Core.Logic.{by_cases}
use mathlib.Core.List.{List, [], ◌∷◌}
use Prim.Native.Nat.{ℕ, ◌+◌, ◌-◌, ◌*◌, ◌/◌, ◌%◌, ◌^◌, ◌<◌}
use native.Mathlib.Nat.{add-zero}
use native.Mathlib.Decide.{dec_lt, ℕ_discrete}
use native.Mathlib.Omega.{arith}
use lib.Bits.{bit_and, bit_or, and_le_l}
use lib.Dec.{T, eqb, eqb→eq}
use lib.ListN.{get_or}
use lib.Pow.{split, pow_pos}
use borrow.Author.Tests.{eq-eqb, ne_eqb}
use Rattle.wires.specs.Wires.{wire}
use Rattle.wires.proofs.Digits.{wire-below, wire-above, wire-zero}
use Rattle.cubes.specs.Cubes.{Part, Fits}
use Rattle.cubes.proofs.Parts.{sum-part}
use Rattle.cubes.proofs.Tests.{every, at}

-- for each set of digits, the numbers that have 0 at each digit of the set
abbrev free : List ℕ
free =
    0xffffffffffffffff ∷ 0x5555555555555555 ∷ 0x3333333333333333 ∷ 0x1111111111111111 ∷
    0xf0f0f0f0f0f0f0f ∷ 0x505050505050505 ∷ 0x303030303030303 ∷ 0x101010101010101 ∷
    0xff00ff00ff00ff ∷ 0x55005500550055 ∷ 0x33003300330033 ∷ 0x11001100110011 ∷
    0xf000f000f000f ∷ 0x5000500050005 ∷ 0x3000300030003 ∷ 0x1000100010001 ∷
    0xffff0000ffff ∷ 0x555500005555 ∷ 0x333300003333 ∷ 0x111100001111 ∷
    0xf0f00000f0f ∷ 0x50500000505 ∷ 0x30300000303 ∷ 0x10100000101 ∷
    0xff000000ff ∷ 0x5500000055 ∷ 0x3300000033 ∷ 0x1100000011 ∷
    0xf0000000f ∷ 0x500000005 ∷ 0x300000003 ∷ 0x100000001 ∷
    0xffffffff ∷ 0x55555555 ∷ 0x33333333 ∷ 0x11111111 ∷
    0xf0f0f0f ∷ 0x5050505 ∷ 0x3030303 ∷ 0x1010101 ∷
    0xff00ff ∷ 0x550055 ∷ 0x330033 ∷ 0x110011 ∷
    0xf000f ∷ 0x50005 ∷ 0x30003 ∷ 0x10001 ∷
    0xffff ∷ 0x5555 ∷ 0x3333 ∷ 0x1111 ∷
    0xf0f ∷ 0x505 ∷ 0x303 ∷ 0x101 ∷
    0xff ∷ 0x55 ∷ 0x33 ∷ 0x11 ∷
    0xf ∷ 0x5 ∷ 0x3 ∷ 0x1 ∷ []

-- the digit b of the word at f, by its meaning
abbrev meant : Bool → ℕ
meant true = 1
meant false = 0

test : ℕ → ℕ → Bool
test f b = eqb (wire (get_or free f 0) b) (meant (eqb (bit_and b f) 0))

all_right : T (every 64 (λ f. every 64 (test f)))
unfolding test
all_right = tt

free-digit : (f b : ℕ) → f < 64 → b < 64 → wire (get_or free f 0) b ≡ meant (eqb (bit_and b f) 0)
unfolding test
free-digit f b hf hb =
    eqb→eq (wire (get_or free f 0) b) (meant (eqb (bit_and b f) 0))
    (at 64 (test f) (at 64 (λ f. every 64 (test f)) all_right f hf) b hb)

free_on : (f b : ℕ) → f < 64 → b < 64 → bit_and b f ≡ 0 → wire (get_or free f 0) b ≡ 1
free_on f b hf hb e = free-digit f b hf hb ∙ ap meant (eq-eqb (bit_and b f) 0 e)

free_off : (f b : ℕ) → f < 64 → b < 64 → wire (get_or free f 0) b ≡ 1 → bit_and b f ≡ 0
free_off f b hf hb e =
    by_cases (ℕ_discrete (bit_and b f) 0) (λ z. z)
    (λ n. absurd (omega (arith, free-digit f b hf hb ∙ ap meant (ne_eqb (bit_and b f) 0 n))))

-- ---- a word that is shifted by u, of 64 digits

shifted-low : (z u b : ℕ) → b < 64 → b < u → wire (z * 2 ^ u % 2 ^ 64) b ≡ 0
shifted-low z u b h l =
    sym (wire-below (z * 2 ^ u / 2 ^ 64) 64 (z * 2 ^ u % 2 ^ 64) b h)
    ∙ ap (λ (x : ℕ). wire x b) (split (z * 2 ^ u) 64 ∙ sym (add-zero (z * 2 ^ u)))
    ∙ wire-below z u 0 b l
    ∙ wire-zero b

shifted-high : (z u b : ℕ) → u + b < 64 → wire (z * 2 ^ u % 2 ^ 64) (u + b) ≡ wire z b
shifted-high z u b h =
    sym (wire-below (z * 2 ^ u / 2 ^ 64) 64 (z * 2 ^ u % 2 ^ 64) (u + b) h)
    ∙ ap (λ (x : ℕ). wire x (u + b)) (split (z * 2 ^ u) 64 ∙ sym (add-zero (z * 2 ^ u)))
    ∙ wire-above z u 0 b (pow_pos u)

-- the numbers below 64 that have u at the digits of f are those that have 0 there, with u added
module _ (f u : ℕ) (hf : f < 64) (hu : Part u f) where
  low : (b : ℕ) → b < 64 → b < u → Fits (get_or free f 0 * 2 ^ u % 2 ^ 64) b f u
  low b h l = (
    λ e. absurd (omega (arith, shifted-low (get_or free f 0) u b h l)),
    λ e. absurd (omega (arith, and_le_l b f)),
  )

  high : (z : ℕ) → u + z < 64 → Fits (get_or free f 0 * 2 ^ u % 2 ^ 64) (u + z) f u
  high z h = (
    λ e. ap (λ (x : ℕ). bit_and x f) turn ∙ (sum-part f u z hu).0 (free_off f z hf (omega arith) (sym (shifted-high (get_or free f 0) u z h) ∙ e)),
    λ e. shifted-high (get_or free f 0) u z h ∙ free_on f z hf (omega arith) ((sum-part f u z hu).1 (ap (λ (x : ℕ). bit_and x f) (sym turn) ∙ e)),
  )
    where
      turn : u + z ≡ z + u
      turn = omega arith

  fits-free : (b : ℕ) → b < 64 → Fits (get_or free f 0 * 2 ^ u % 2 ^ 64) b f u
  fits-free b h =
      by_cases (dec_lt b u) (low b h)
      (λ g. subst (λ (k : ℕ). Fits (get_or free f 0 * 2 ^ u % 2 ^ 64) k f u) (back g) (high (b - u) (omega arith)))
    where
      back : (b < u → ⊥) → u + (b - u) ≡ b
      back g = omega arith

-- ---- the same words, made by doubling along each digit that is free

abbrev doubled : ℕ → ℕ → ℕ
doubled z k = bit_or z (z * 2 ^ k % 2 ^ 64)

abbrev spread : ℕ → ℕ
spread e =
    doubled (doubled (doubled (doubled (doubled (doubled 1 (bit_and e 1)) (bit_and e 2)) (bit_and e 4)) (bit_and e 8)) (bit_and e 16)) (bit_and e 32)

spread-test : ℕ → Bool
spread-test f = eqb (spread (63 - f)) (get_or free f 0)

spread-right : T (every 64 spread-test)
unfolding spread-test
spread-right = tt

spread-is : (f : ℕ) → f < 64 → get_or free f 0 ≡ spread (63 - f)
unfolding spread-test
spread-is f h = sym (eqb→eq (spread (63 - f)) (get_or free f 0) (at 64 spread-test spread-right f h))

pub fits : (f u : ℕ) → f < 64 → Part u f → (b : ℕ) → b < 64 → Fits (spread (63 - f) * 2 ^ u % 2 ^ 64) b f u
fits f u hf hu b h = subst (λ (z : ℕ). Fits (z * 2 ^ u % 2 ^ 64) b f u) (spread-is f hf) (fits-free f u hf hu b h)
