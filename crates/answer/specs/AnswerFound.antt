-- What the answer reader answers of the definitions' answers. Assumes nothing: these are definitions.
use Rattle.std.specs.Prelude.{ℕ, length, Result, Ok, Err}
use Rattle.steps.specs.Step.{Reading, ◌>>=◌, give}
use Rattle.steps.specs.declared.Refusal.{Refusal}
use Rattle.answer.specs.declared.AnswerKind.{AnswerKind}
use Rattle.answer.specs.declared.AnswerKind.TheVariants.{Tables, Walk}
use Rattle.answer.specs.Answer.{Answer, tables, walk, AnswerVerdict, answered, rejected}
use Rattle.answer.specs.AnswerSheet.{bits, entries, tables_rest, walk_rest}

-- n table entries, of which nothing is kept: they stay in the sheet
unfoldable pub bits_pass : ℕ → Reading ℕ
bits_pass n = do
  bs ← bits n
  give n

-- n walk entries, of which nothing is kept
unfoldable pub entries_pass : (n claims combinations : ℕ) → Reading ℕ
entries_pass n claims combinations = do
  es ← entries n claims combinations
  give n

-- how many entries an answer's walk has; tables have none
abbrev pub count_of : Answer → ℕ
count_of (tables xs ys) = 0
count_of (walk es) = length es

unfoldable pub tables_pass : (rows_a rows_b : ℕ) → Reading ℕ
tables_pass rows_a rows_b = do
  t ← tables_rest rows_a rows_b
  give (count_of t)

unfoldable pub walk_pass : (claims combinations : ℕ) → Reading ℕ
walk_pass claims combinations = do
  w ← walk_rest claims combinations
  give (count_of w)

-- what the answer reader answers
abbrev pub as_answer : AnswerVerdict → Result AnswerKind Refusal
as_answer (answered (tables xs ys)) = Ok Tables
as_answer (answered (walk es)) = Ok (Walk (length es))
as_answer (rejected w) = Err w
