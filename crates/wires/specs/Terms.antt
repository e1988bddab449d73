-- Terms and rules (document 01, "Numbers used", its last point).
--     Setting   a combination of n wires with the values of the two cells
--     value     the value of a variable
--     IsTrue    a term is true
--     Holds     a rule holds
--     Fault     some rule is broken
--     Truths    a mask is the set of the true terms
--     Meets     a rule has a term in a set
--     BrokenAt, FirstBroken     the first of some rules that has none, and which it is, if any (document 02, request 4)
--     Excuses   all terms of an excuse are true (document 02, request 2)
--     Excused   some excuse's are
--     Contains, containsb     a set contains all of another, and the same as a test that computes
--     some_within              it contains all of some set of a list
-- Assumes nothing.
use Rattle.std.specs.Prelude.{◌≡◌, ℕ, ◌+◌, ◌*◌, ◌/◌, ◌%◌, ◌^◌, ◌<◌, ◌≤◌, Bool, true, false, ◌||◌, ◌⊎◌, ◌↔◌, List, [], ◌∷◌, ◌==◌, Option, MatchOption, bit_and, length, nat_lt, slice_index}
use Rattle.wires.specs.Wires.{wire}

-- a combination a of n wires, and the values x of cell A and y of cell B. The 2n + 4 terms of 14 wires just fit a mask of 32 bits.
pub record Setting (n a x y : ℕ) : Type 0 where
  pub wires : n ≤ 14
  pub below : a < 2 ^ n
  pub cell_a : x < 2
  pub cell_b : y < 2

abbrev pub choose : Bool → ℕ → ℕ → ℕ
choose true p q = p
choose false p q = q

-- the value of the variable v: v a wire position, or n for A, or n+1 for B
unfoldable pub value : ℕ → ℕ → ℕ → ℕ → ℕ → ℕ
value n a x y v = choose (nat_lt v n) (wire a v) (choose (v == n) x y)

-- Term 2v is plain and 2v+1 negated: the plain term is true where its variable is 1, the negated where it is 0
abbrev pub IsTrue : ℕ → ℕ → ℕ → ℕ → ℕ → Type 0
IsTrue n a x y t = ((t % 2 ≡ 0) × (value n a x y (t / 2) ≡ 1)) ⊎ ((t % 2 ≡ 1) × (value n a x y (t / 2) ≡ 0))

-- A rule is a set of terms, one bit each, and holds if one of its terms does
abbrev pub Holds : ℕ → ℕ → ℕ → ℕ → ℕ → Type 0
Holds n a x y rule = (t : ℕ) × (t < 2 * n + 4) × (wire rule t ≡ 1) × IsTrue n a x y t

-- the rule is broken: no term of it is true
abbrev pub Breaks : ℕ → ℕ → ℕ → ℕ → ℕ → Type 0
Breaks n a x y rule = Holds n a x y rule → ⊥

-- one of the first `count` rules is broken
abbrev pub Fault : ℕ → List ℕ → ℕ → ℕ → ℕ → ℕ → Type 0
Fault n rules count a x y = (i : ℕ) × (i < count) × Breaks n a x y (slice_index rules i)

-- r is the set of the true terms, of the 2n + 4 that there are
pub record Truths (n a x y r : ℕ) : Type 0 where
  pub each : (t : ℕ) → t < 2 * n + 4 → (wire r t ≡ 1) ↔ IsTrue n a x y t
  pub none : r < 2 ^ (2 * n + 4)

-- some term of the rule is in the set
abbrev pub Meets : ℕ → ℕ → Type 0
Meets rule set = (t : ℕ) × (wire rule t ≡ 1) × (wire set t ≡ 1)

-- rule r, from 0, has no term in the set, and each before it has one
pub record BrokenAt (rules : List ℕ) (set r : ℕ) : Type 0 where
  pub within : r < length rules
  pub broken : Meets (slice_index rules r) set → ⊥
  pub before : (i : ℕ) → i < r → Meets (slice_index rules i) set

-- r is the number of the first of the rules with no term in the set, from 0, or `None` where each has one
abbrev pub FirstBroken : List ℕ → ℕ → Option ℕ → Type 0
FirstBroken rules set r = MatchOption r ((i : ℕ) → i < length rules → Meets (slice_index rules i) set) (BrokenAt rules set)

-- all terms of the excuse are true at the combination a. They are terms of wires, below 2n, so the cells' values don't matter
abbrev pub Excuses : ℕ → ℕ → ℕ → Type 0
Excuses n a excuse = (t : ℕ) → t < 2 * n → wire excuse t ≡ 1 → IsTrue n a 0 0 t

-- one of the first `count` excuses does so
abbrev pub Excused : ℕ → List ℕ → ℕ → ℕ → Type 0
Excused n excuses count a = (i : ℕ) × (i < count) × Excuses n a (slice_index excuses i)

-- the set r contains all of the set s
abbrev pub Contains : ℕ → ℕ → Type 0
Contains r s = (t : ℕ) → wire s t ≡ 1 → wire r t ≡ 1

abbrev pub containsb : ℕ → ℕ → Bool
containsb r s = bit_and s r == s

-- some set of the list is contained in r
unfoldable pub some_within : List ℕ → ℕ → Bool
some_within [] r = false
some_within (s ∷ ss) r = containsb r s || some_within ss r
