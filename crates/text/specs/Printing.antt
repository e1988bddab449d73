-- What the printing functions ask and leave, over the bytes of an answer sheet.
--     entries_from      the entries of a walk as they stand in a sheet
--     Prints           a text stands at the front of the buffer, and every byte beyond it is as it was
-- Assumes nothing: these are definitions.
use Rattle.std.specs.Prelude.{◌≡◌, List, [], ◌∷◌, ◌++◌, ℕ, zero, suc, ◌+◌, ◌*◌, ◌<◌, ◌≤◌, length, get_or, take, drop}
use Rattle.answer.specs.Answer.{Entry}
use Rattle.board.specs.Places.{word_at, claim_in, combination_in}
use Rattle.text.specs.Text.{longest_text, tables_text, walk_text}

-- k entries from entry i on
unfoldable pub entries_from : (s : List ℕ) (i k : ℕ) → List Entry
entries_from s i zero = []
entries_from s i (suc k) = record { says = claim_in s i; by = combination_in s i } ∷ entries_from s (i + 1) k

pub record Prints (t entry exit : List ℕ) (r : ℕ) : Type 0 where
  pub long : r ≡ length t
  pub bytes : exit ≡ t ++ drop (length t) entry

-- each number leaves room for 48 in a byte
abbrev pub Small : List ℕ → Type 0
Small s = (i : ℕ) → i < length s → get_or s i 0 < 208

-- a sheet of two tables, at most 256 rows each, every row a bit
pub record TablesAsk (s out : List ℕ) : Type 0 where
  pub few_a : word_at s 0 ≤ 256
  pub few_b : word_at s (2 + word_at s 0) ≤ 256
  pub there : 4 + word_at s 0 + word_at s (2 + word_at s 0) ≤ length s
  pub small_a : Small (take (word_at s 0) (drop 2 s))
  pub small_b : Small (take (word_at s (2 + word_at s 0)) (drop (4 + word_at s 0) s))
  pub room : longest_text ≤ length out

abbrev pub tables_of : List ℕ → List ℕ
tables_of s = tables_text (take (word_at s 0) (drop 2 s)) (take (word_at s (2 + word_at s 0)) (drop (4 + word_at s 0) s))

-- a sheet of a walk of at most 2,046 entries, each of numbers below 10,000
pub record WalkAsk (s out : List ℕ) : Type 0 where
  pub most : word_at s 4 ≤ 2046
  pub there : 6 + 4 * word_at s 4 ≤ length s
  pub claims : (i : ℕ) → i < word_at s 4 → claim_in s i < 10000
  pub combinations : (i : ℕ) → i < word_at s 4 → combination_in s i < 10000
  pub room : longest_text ≤ length out

abbrev pub walk_of : List ℕ → List ℕ
walk_of s = walk_text (entries_from s 0 (word_at s 4))
