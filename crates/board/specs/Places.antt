-- Tables and walks as they stand in an answer sheet: which bytes the checker looks at.
--     word_at                     two bytes, low byte first
--     claim_in, combination_in     a walk's entry i
--     row_a, row_b                 the table bytes of the rows that a combination shows to A and to B
--     fault_in, tested_in, rule_in  with A and B set to these, some rule is broken; the test of the combination, and the rule that it tells
--     step_in                     the step of entry i holds
--     walk_in                     the judgement of a walk of k entries
--     TablesIn, WalkIn           what is known of a sheet of tables, and of a walk of k entries
-- Assumes nothing: these are definitions.
use Rattle.std.specs.Prelude.{Bool, not, List, Option, ℕ, ◌+◌, ◌*◌, ◌^◌, ◌<◌, ◌≤◌, ltb, eqb, length, get_or}
use Rattle.std.specs.Int.Count.{ones}
use Rattle.steps.specs.Step.{pick}
use Rattle.wires.specs.Wires.{shown}
use Rattle.sheet.specs.declared.JobHead.{JobHead}
use Rattle.board.specs.Tests.{lowest, stepb}
use Rattle.steps.specs.declared.Outcome.{Outcome}
use Rattle.steps.specs.Outcome.{success, refusal}
use Rattle.board.specs.Board.{opposite}
use Rattle.board.specs.JobBoard.{any_below, head_board}
use Rattle.board.specs.Tested.{tested, rule_of}

abbrev pub word_at : List ℕ → ℕ → ℕ
word_at s at = get_or s at 0 + 256 * get_or s (at + 1) 0

abbrev pub claim_in : List ℕ → ℕ → ℕ
claim_in s i = word_at s (6 + 4 * i)

abbrev pub combination_in : List ℕ → ℕ → ℕ
combination_in s i = word_at s (8 + 4 * i)

abbrev pub row_a : JobHead → (s : List ℕ) → ℕ → ℕ
row_a h s a = get_or s (2 + shown h.wires h.sees_a a) 0

abbrev pub row_b : JobHead → (s : List ℕ) → ℕ → ℕ
row_b h s a = get_or s (4 + 2 ^ ones h.sees_a + shown h.wires h.sees_b a) 0

abbrev pub fault_in : JobHead → (masks s : List ℕ) → ℕ → Bool
fault_in h masks s a = (head_board h masks).breaks a (row_a h s a) (row_b h s a)

abbrev pub tested_in : JobHead → (masks s : List ℕ) → ℕ → Option ℕ
tested_in h masks s a = tested (head_board h masks) a (row_a h s a) (row_b h s a)

abbrev pub rule_in : JobHead → (masks s : List ℕ) → ℕ → ℕ
rule_in h masks s a = rule_of (tested_in h masks s a)

-- the entry after entry i of k; after the last comes the first
abbrev pub after_of : (k i : ℕ) → ℕ
after_of k i = pick (eqb (i + 1) k) 0 (i + 1)

abbrev pub step_in : JobHead → (masks s : List ℕ) → (k i : ℕ) → Bool
step_in h masks s k i = stepb (head_board h masks) (claim_in s i) (claim_in s (after_of k i)) (combination_in s i)

abbrev pub opposed_in : List ℕ → ℕ → Bool
opposed_in s i = eqb (claim_in s i) (opposite (claim_in s 0))

abbrev pub walk_in : JobHead → (masks s : List ℕ) → ℕ → Outcome
walk_in h masks s k =
    pick (ltb (lowest (λ i. not (step_in h masks s k i)) k) k)
    (refusal 12 2 (lowest (λ i. not (step_in h masks s k i)) k))
    (pick (any_below (opposed_in s) k) (success 21 0) (refusal 13 2 0))

pub record TablesIn (h : JobHead) (s : List ℕ) : Type 0 where
  pub long : 6 + 2 ^ ones h.sees_a + 2 ^ ones h.sees_b ≤ length s
  pub bits_a : (r : ℕ) → r < 2 ^ ones h.sees_a → get_or s (2 + r) 0 < 2
  pub bits_b : (r : ℕ) → r < 2 ^ ones h.sees_b → get_or s (4 + 2 ^ ones h.sees_a + r) 0 < 2

pub record WalkIn (h : JobHead) (s : List ℕ) (k : ℕ) : Type 0 where
  pub some : 0 < k
  pub most : k ≤ 2046
  pub long : 6 + 4 * k ≤ length s
  pub combinations : (i : ℕ) → i < k → combination_in s i < 2 ^ h.wires
