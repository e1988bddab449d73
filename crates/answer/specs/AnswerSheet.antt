-- The answer sheet (document 01, "Answer sheet"), left to right, for a board with rows_a rows of A, rows_b rows of B and so many combinations.
--     walk_limit, longest     the most entries of a walk, and the longest sheet
--     read_answer             what a sheet comes to
-- Assumes nothing: these are definitions.
use Rattle.std.specs.Prelude.{ℕ, zero, suc, ◌+◌, ◌*◌, Bool, ◌&&◌, ◌||◌, List, [], ◌∷◌, ltb, leb, eqb}
use Rattle.steps.specs.declared.Refusal.TheVariants.{OtherKind, NotABit, OutOfRange}
use Rattle.steps.specs.Step.{Step, got, refused, Reading, ◌>>=◌, give, pick}
use Rattle.steps.specs.Bytes.{byte, word, end}
use Rattle.answer.specs.Answer.{Entry, Answer, tables, walk, AnswerVerdict, answered, rejected}

-- Walk: 0, 0, and 1 to 2,046.
abbrev pub walk_limit : ℕ
walk_limit = 2046

-- The longest sheet has 8,190 bytes.
abbrev pub longest : ℕ
longest = 8190

-- a count n that was read from the place `first` on, where `ok` says whether it is of a permitted kind. Code 8, where it is not, at its first byte
unfoldable pub permitted : Bool → (first n : ℕ) → Reading ℕ
permitted ok first n s at = pick ok (got n at) (refused (OtherKind first))

-- Each section starts with a two-byte count, low byte first: one that has to be r
unfoldable pub exactly : ℕ → Reading ℕ
exactly r s at = (word >>= λ n. permitted (eqb n r) at n) s at

-- the first count settles the kind: the rows of A for tables, 0 for a walk
unfoldable pub kind_count : ℕ → Reading ℕ
kind_count rows_a s at = (word >>= λ n. permitted (eqb n rows_a || eqb n 0) at n) s at

-- the count of a walk's entries
unfoldable pub walk_count : Reading ℕ
walk_count s at = (word >>= λ n. permitted (leb 1 n && leb n walk_limit) at n) s at

-- Table entries are one byte per row, 0 or 1. Code 9, where a byte is above 1, at its place
unfoldable pub is_bit : (first b : ℕ) → Reading ℕ
is_bit first b s at = pick (leb b 1) (got b at) (refused (NotABit first))

unfoldable pub bit : Reading ℕ
bit s at = (byte >>= is_bit at) s at

-- n rows, rising
unfoldable pub bits : ℕ → Reading (List ℕ)
bits zero = give []
bits (suc n) = do
  b ← bit
  bs ← bits n
  give (b ∷ bs)

-- a number of two bytes, low byte first. Code 11, where it is not below its limit, at its two bytes
unfoldable pub is_below : (limit first v : ℕ) → Reading ℕ
is_below limit first v s at = pick (ltb v limit) (got v at) (refused (OutOfRange first))

unfoldable pub below : ℕ → Reading ℕ
below limit s at = (word >>= is_below limit at) s at

-- A walk entry is four bytes: claim, then combination
unfoldable pub entry : (claims combinations : ℕ) → Reading Entry
entry claims combinations = do
  c ← below claims
  a ← below combinations
  give (record { says = c; by = a })

unfoldable pub entries : (n claims combinations : ℕ) → Reading (List Entry)
entries zero claims combinations = give []
entries (suc n) claims combinations = do
  e ← entry claims combinations
  es ← entries n claims combinations
  give (e ∷ es)

-- Tables: counts are the rows of A, the rows of B, and 0. What follows the first count
unfoldable pub tables_rest : (rows_a rows_b : ℕ) → Reading Answer
tables_rest rows_a rows_b = do
  xs ← bits rows_a
  k ← exactly rows_b
  ys ← bits rows_b
  z ← exactly 0
  e ← end
  give (tables xs ys)

-- Walk: 0, 0, and 1 to 2,046. What follows the first count
unfoldable pub walk_rest : (claims combinations : ℕ) → Reading Answer
walk_rest claims combinations = do
  z ← exactly 0
  k ← walk_count
  es ← entries k claims combinations
  e ← end
  give (walk es)

-- Three sections: table A, table B, walk.
unfoldable pub answer : (rows_a rows_b combinations : ℕ) → Reading Answer
answer rows_a rows_b combinations s at =
    (kind_count rows_a >>= λ k. pick (eqb k 0) (walk_rest (2 * (rows_a + rows_b)) combinations) (tables_rest rows_a rows_b)) s at

abbrev pub verdict_of : Step Answer → AnswerVerdict
verdict_of (got a at) = answered a
verdict_of (refused w) = rejected w

-- what an answer sheet comes to
unfoldable pub read_answer : (rows_a rows_b combinations : ℕ) → List ℕ → AnswerVerdict
read_answer rows_a rows_b combinations s = verdict_of (answer rows_a rows_b combinations s 0)
