-- What an answer is: two tables, or a walk. Assumes nothing: these are definitions.
use Rattle.std.specs.Prelude.{ℕ, List}
use Rattle.steps.specs.declared.Refusal.{Refusal}

-- a walk's entry: a claim, and the combination by which the walk leaves it
pub record Entry : Type 0 where
  pub says : ℕ
  pub by : ℕ

-- the rows of A and of B, a bit each, rows rising; or the entries of a walk
pub data Answer : Type 0 where
  tables : List ℕ → List ℕ → Answer
  walk : List Entry → Answer

-- what an answer sheet comes to
pub data AnswerVerdict : Type 0 where
  answered : Answer → AnswerVerdict
  rejected : Refusal → AnswerVerdict
