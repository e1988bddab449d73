-- The table of the faults of a board of n wires under a list of rules: for each combination a of the wires, each value x of cell A and each value y of
-- cell B, whether some rule is broken there. It has 64 digits to a word, and 4 for each combination: the digit for a, x and y is the digit
-- 4 * (a % 16) + 2 * x + y of the word a / 16. Every digit of a combination a < 2 ^ n is settled. Nothing is said of the others: where n is less than 4 they
-- are the upper digits of the first word, and of the words after those that the board uses some are written and some are not.
use Rattle.std.specs.Prelude.{◌≡◌, ◌⊎◌, ◌↔◌, List, ℕ, ◌+◌, ◌*◌, ◌-◌, ◌/◌, ◌%◌, ◌<◌, length, get_or}
use Rattle.wires.specs.Wires.{wire}
use Rattle.cubes.specs.declared.table.Table.{Table}
use Rattle.wires.specs.Terms.{Setting, Breaks, Fault, Excuses, Excused}

-- the digit for a, x and y
abbrev pub bit : List ℕ → ℕ → ℕ → ℕ → ℕ
bit words a x y = wire (get_or words (a / 16) 0) (4 * (a % 16) + 2 * x + y)

-- a table of n wires that has 1 exactly where one of the rules is broken
pub record Faults (n : ℕ) (rules : List ℕ) (t : Table) : Type 0 where
  pub wires : t.wires ≡ n
  pub tells : (a x y : ℕ) → Setting n a x y → (bit t.words a x y ≡ 1) ↔ Fault n rules (length rules) a x y

-- the table t has 1 where it was so in s, and where the rule is broken
pub record Marked (rule : ℕ) (s t : Table) : Type 0 where
  pub wires : t.wires ≡ s.wires
  pub tells : (a x y : ℕ) → Setting s.wires a x y → (bit t.words a x y ≡ 1) ↔ ((bit s.words a x y ≡ 1) ⊎ Breaks s.wires a x y rule)

-- the words of t below `end` are 0, and it is as long as s
pub record Cleared (end : ℕ) (s t : List ℕ) : Type 0 where
  pub size : length t ≡ length s
  pub each : (w : ℕ) → w < end → get_or t w 0 ≡ 0

-- each digit of the words below `end` is the other one, and t is as long as s
pub record Turned (end : ℕ) (s t : List ℕ) : Type 0 where
  pub size : length t ≡ length s
  pub each : (w p : ℕ) → w < end → p < 64 → wire (get_or t w 0) p ≡ 1 - wire (get_or s w 0) p

-- the table t has 1 where it was so in s, and where the excuse excuses the combination
pub record Waived (excuse : ℕ) (s t : Table) : Type 0 where
  pub wires : t.wires ≡ s.wires
  pub tells : (a x y : ℕ) → Setting s.wires a x y → (bit t.words a x y ≡ 1) ↔ ((bit s.words a x y ≡ 1) ⊎ Excuses s.wires a excuse)

-- the table t has 1 where it was so in s and none of the excuses excuses the combination
pub record Struck (excuses : List ℕ) (s t : Table) : Type 0 where
  pub wires : t.wires ≡ s.wires
  pub tells : (a x y : ℕ) → Setting s.wires a x y
      → (bit t.words a x y ≡ 1) ↔ ((bit s.words a x y ≡ 1) × (Excused s.wires excuses (length excuses) a → ⊥))
