-- The parts of a mask, which are the numbers whose digits are digits of it. Assumes nothing.
use mathlib.Core.Path.{◌≡◌, refl, sym, ap, ◌∙◌}
use mathlib.Core.Logic.{◌↔◌, ⊎_elim}
use Prim.Native.Nat.{ℕ, zero, suc, ◌+◌, ◌-◌, ◌*◌, ◌/◌, ◌%◌, ◌^◌, ◌<◌, ◌≤◌, suc-le-suc, min}
use native.Mathlib.Nat.{not-suc-le-zero, zero-lt-suc}
use native.Mathlib.Omega.{arith}
use lib.Arith.{bin_ind}
use lib.Bits.{bit_and, and_step, and_zero_r, and_le_r}
use Rattle.wires.specs.Wires.{wire}
use Rattle.wires.proofs.Digits.{low_digit, wire-low, wire-high, half-below}
use Rattle.cubes.specs.Cubes.{Part}

-- ---- one digit of a part, and the others

part-half : (s f : ℕ) → Part s f → Part (s / 2) (f / 2)
part-half s f h = omega (arith, and_step s f)

part_low : (s f : ℕ) → Part s f → s % 2 ≤ f % 2
part_low s f h = omega (arith, and_step s f)

pub part_le : (s f : ℕ) → Part s f → s ≤ f
part_le s f h = omega (arith, and_le_r s f)

pub and-within : (a b : ℕ) → Part (bit_and a b) b
and-within =
    bin_ind (λ (n : ℕ). (b : ℕ) → Part (bit_and n b) b) (λ b. refl)
    (λ n ih b.
    let half : bit_and n b / 2 ≡ bit_and (n / 2) (b / 2) = omega (arith, and_step n b) in
    omega (arith, and_step (bit_and n b) b, and_step n b, ap (λ (x : ℕ). bit_and x (b / 2)) half, ih (b / 2)))

-- ---- the next part below s is `(s - 1) & f`

odd-down : (s f : ℕ) → s % 2 ≡ 1 → Part s f → bit_and (s - 1) f ≡ s / 2 * 2
odd-down s f e h = omega (arith, and_step (s - 1) f, ap (λ (x : ℕ). bit_and x (f / 2)) halves, part-half s f h)
  where
    halves : (s - 1) / 2 ≡ s / 2
    halves = omega arith

even-down : (s f : ℕ) → s % 2 ≡ 0 → 0 < s → bit_and (s - 1) f ≡ bit_and (s / 2 - 1) (f / 2) * 2 + f % 2
even-down s f e l = omega (arith, and_step (s - 1) f, ap (λ (x : ℕ). bit_and x (f / 2)) halves)
  where
    halves : (s - 1) / 2 ≡ s / 2 - 1
    halves = omega arith

pub step_down : (s f d : ℕ) → Part s f → Part d f → d < s → d ≤ bit_and (s - 1) f
step_down =
    bin_ind (λ (s : ℕ). (f d : ℕ) → Part s f → Part d f → d < s → d ≤ bit_and (s - 1) f) (λ f d hs hd l. absurd (not-suc-le-zero l))
    (λ s ih f d hs hd l.
    ⊎_elim (λ e. omega (arith, even-down s f e (omega arith), part_low d f hd, ih (f / 2) (d / 2) (part-half s f hs) (part-half d f hd) (omega arith)))
    (λ e. omega (arith, odd-down s f e hs))
    (low_digit s))

-- ---- a number of k digits is its part of f and its part of the other digits

other_half : (k f : ℕ) → f < 2 ^ suc k → (2 ^ suc k - 1 - f) / 2 ≡ 2 ^ k - 1 - f / 2
other_half k f h = omega arith

other-low : (k f : ℕ) → f < 2 ^ suc k → (2 ^ suc k - 1 - f) % 2 ≡ 1 - f % 2
other-low k f h = omega arith

and-other : (k w f : ℕ) → f < 2 ^ suc k → bit_and w (2 ^ suc k - 1 - f) ≡ bit_and (w / 2) (2 ^ k - 1 - f / 2) * 2 + min (w % 2) (1 - f % 2)
and-other k w f h =
    omega (arith, and_step w (2 ^ suc k - 1 - f), ap (bit_and (w / 2)) (other_half k f h), ap (min (w % 2)) (other-low k f h))

pub split : (k w f : ℕ) → w < 2 ^ k → f < 2 ^ k → bit_and w f + bit_and w (2 ^ k - 1 - f) ≡ w
split zero w f hw hf = omega (arith, ap (λ (x : ℕ). bit_and x f) none, ap (λ (x : ℕ). bit_and x (2 ^ 0 - 1 - f)) none)
  where
    none : w ≡ 0
    none = omega arith
split (suc k) w f hw hf = omega (arith, and_step w f, and-other k w f hf, split k (w / 2) (f / 2) (half-below k hw) (half-below k hf))

pub join : (k v d f : ℕ) → f < 2 ^ k → Part v f → Part d (2 ^ k - 1 - f) → bit_and (v + d) f ≡ v
join zero v d f hf hv hd = omega (arith, part_le v f hv, and_le_r (v + d) f)
join (suc k) v d f hf hv hd =
    and_step (v + d) f
    ∙ digits _ _
    (ap (λ (x : ℕ). bit_and x (f / 2)) halves ∙ join k (v / 2) (d / 2) (f / 2) (half-below k hf) (part-half v f hv) other-part)
    lowest
  where
    digits : (h l : ℕ) → h ≡ v / 2 → l ≡ v % 2 → h * 2 + l ≡ v
    digits h l eh el = omega arith

    other-part : Part (d / 2) (2 ^ k - 1 - f / 2)
    other-part = omega (arith, and-other k d f hf)

    other-digit : d % 2 ≤ 1 - f % 2
    other-digit = omega (arith, and-other k d f hf)

    halves : (v + d) / 2 ≡ v / 2 + d / 2
    halves = omega (arith, part_low v f hv, other-digit)

    lowest : min ((v + d) % 2) (f % 2) ≡ v % 2
    lowest = omega (arith, part_low v f hv, other-digit)

-- ---- a sum with a part

sum-off : (f u z : ℕ) → Part u f → bit_and z f ≡ 0 → bit_and (z + u) f ≡ u
sum-off =
    bin_ind (λ (f : ℕ). (u z : ℕ) → Part u f → bit_and z f ≡ 0 → bit_and (z + u) f ≡ u)
    (λ u z hu hz. omega (arith, and_zero_r (z + u), and_zero_r u))
    (λ f ih u z hu hz.
    let low : z % 2 + u % 2 < 2 = omega (arith, part_low u f hu, and_step z f) in
    let halves : (z + u) / 2 ≡ z / 2 + u / 2 = omega arith in
    omega (
      arith,
      and_step (z + u) f,
      and_step z f,
      part_low u f hu,
      ap (λ (x : ℕ). bit_and x (f / 2)) halves,
      ih (u / 2) (z / 2) (part-half u f hu) (omega (arith, and_step z f)),
    ))

sum-on : (f u z : ℕ) → Part u f → bit_and (z + u) f ≡ u → bit_and z f ≡ 0
sum-on =
    bin_ind (λ (f : ℕ). (u z : ℕ) → Part u f → bit_and (z + u) f ≡ u → bit_and z f ≡ 0)
    (λ u z hu hz. and_zero_r z)
    (λ f ih u z hu hz.
    let low : z % 2 + u % 2 < 2 = omega (arith, part_low u f hu, and_step (z + u) f) in
    let halves : (z + u) / 2 ≡ z / 2 + u / 2 = omega arith in
    let back = ap (λ (x : ℕ). bit_and x (f / 2)) halves in
    omega (
      arith,
      and_step (z + u) f,
      and_step z f,
      part_low u f hu,
      ih (u / 2) (z / 2) (part-half u f hu) (omega (arith, and_step (z + u) f)),
    ))

pub sum-part : (f u z : ℕ) → Part u f → (bit_and z f ≡ 0) ↔ (bit_and (z + u) f ≡ u)
sum-part f u z h = (sum-off f u z h, sum-on f u z h)

-- ---- numbers with the same digits

pub same : (m a b : ℕ) → a < 2 ^ m → b < 2 ^ m → ((p : ℕ) → p < m → wire a p ≡ wire b p) → a ≡ b
same zero a b ha hb h = omega arith
same (suc m) a b ha hb h =
    omega (
      arith,
      sym (wire-low a) ∙ h 0 (zero-lt-suc m) ∙ wire-low b,
      same m (a / 2) (b / 2) (half-below m ha) (half-below m hb) (λ p l. sym (wire-high a p) ∙ h (suc p) (suc-le-suc l) ∙ wire-high b p),
    )
