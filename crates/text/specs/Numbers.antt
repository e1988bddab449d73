-- The numbers of an outcome as a line (document 02, request 4).
--     numbers_text    code, sheet, place, bytes written and rule, in decimal with one space between, and a line feed
--     numbered       how a call ends that prints it, for every outcome and every buffer
-- Assumes nothing: these are definitions.
use Rattle.std.specs.Prelude.{List, [], ◌∷◌, ◌++◌, ℕ, ltb, length}
use Rattle.steps.specs.declared.Outcome.{Outcome}
use Rattle.steps.specs.Step.{pick}
use Rattle.steps.specs.Outcome.{refusal, Ending, refusing, writing}
use Rattle.text.specs.Decimal.{decimal}

-- code, sheet and place, which a line of `refused` tells too
abbrev pub first_three : Outcome → List ℕ
first_three o = decimal o.code ++ (32 ∷ decimal o.sheet) ++ (32 ∷ decimal o.place)

abbrev pub numbers_text : Outcome → List ℕ
numbers_text o = first_three o ++ (32 ∷ decimal o.written) ++ (32 ∷ decimal o.rule) ++ (10 ∷ [])

-- the longest line: two numbers of at most 3 digits, three of at most 20, four spaces and a line feed
abbrev pub longest_numbers : ℕ
longest_numbers = 71

-- 6: buffer shorter than the longest line (sheet 0). 0: the line is written.
unfoldable pub numbered : Outcome → (entry : List ℕ) → Ending
numbered o entry = pick (ltb (length entry) longest_numbers) (refusing (refusal 6 0 0) entry) (writing 0 (numbers_text o) entry)
