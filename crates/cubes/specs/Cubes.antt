-- Places of the table, and the cubes of places that a rule leaves broken. The place of a, x and y is the number 4 * a + 2 * x + y: its digits are
-- y, x, and then the wires of a. A cube is the set of the places that have given values at given digits.
use Rattle.std.specs.Prelude.{◌≡◌, ◌⊎◌, ◌↔◌, ◌≢◌, List, ℕ, ◌+◌, ◌*◌, ◌/◌, ◌%◌, ◌^◌, ◌<◌, ◌≤◌, length, get_or}
use Rattle.std.specs.Int.Bits.{bit_and, bit_or}
use Rattle.wires.specs.Wires.{wire}
use Rattle.cubes.specs.declared.table.Table.{Table}

-- r has the even digits of x
pub record Evens (x r : ℕ) : Type 0 where
  pub each : (p : ℕ) → p < 16 → wire r p ≡ wire x (2 * p)
  pub small : r < 2 ^ 16

-- e has a digit for each variable, the n wires, cell A and cell B. r has them as a place has: cell B, cell A, the wires
pub record Arranged (n e r : ℕ) : Type 0 where
  pub cell_b : wire r 0 ≡ wire e (n + 1)
  pub cell_a : wire r 1 ≡ wire e n
  pub wires : (v : ℕ) → v < n → wire r (2 + v) ≡ wire e v
  pub small : r < 2 ^ (n + 2)

-- the digits of s are digits of f
abbrev pub Part : ℕ → ℕ → Type 0
Part s f = bit_and s f ≡ s

-- the word r has 1 at b exactly where b has the values of `up` at the digits of `fixed`
abbrev pub Fits : ℕ → ℕ → ℕ → ℕ → Type 0
Fits r b fixed up = (wire r b ≡ 1) ↔ (bit_and b fixed ≡ up)

-- t is the table s with the pattern added to those of the first k words from w on whose digit of `rows` is 1
pub record Added (w pattern rows k : ℕ) (s t : List ℕ) : Type 0 where
  pub size : length t ≡ length s
  pub done : (j : ℕ) → j < k → get_or t (w + j) 0 ≡ bit_or (get_or s (w + j) 0) (pattern * wire rows j)
  pub kept : (v : ℕ) → ((j : ℕ) → j < k → v ≢ w + j) → get_or t v 0 ≡ get_or s v 0

-- t is the table s with the same done to each block of 4 words whose distance from the block `base` is a part of `free` that is not below e
pub record Ored (base free pattern rows e : ℕ) (s t : List ℕ) : Type 0 where
  pub size : length t ≡ length s
  pub done : (d : ℕ) → Part d free → e ≤ d → (j : ℕ) → j < 4
      → get_or t (4 * (base + d) + j) 0 ≡ bit_or (get_or s (4 * (base + d) + j) 0) (pattern * wire rows j)
  pub kept : (v : ℕ) → ((d : ℕ) → Part d free → e ≤ d → v / 4 ≢ base + d) → get_or t v 0 ≡ get_or s v 0

-- the places of a board of n wires that have the values of `up` at the digits of `fixed`
pub record Cube (n fixed up : ℕ) : Type 0 where
  pub below : fixed < 2 ^ (n + 2)
  pub part : Part up fixed

-- the digit of a place
abbrev pub at : List ℕ → ℕ → ℕ
at words p = wire (get_or words (p / 64) 0) (p % 64)

-- the table t has 1 where it was so in s, and at the places of the cube
pub record Filled (fixed up : ℕ) (s t : Table) : Type 0 where
  pub wires : t.wires ≡ s.wires
  pub each : (p : ℕ) → p < 2 ^ (s.wires + 2) → (at t.words p ≡ 1) ↔ ((at s.words p ≡ 1) ⊎ (bit_and p fixed ≡ up))
