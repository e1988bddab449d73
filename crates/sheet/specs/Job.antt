-- A job, and what reading a sheet comes to. Assumes nothing: these are definitions.
use Rattle.std.specs.Prelude.{ℕ, List}
use Rattle.steps.specs.declared.Refusal.{Refusal}

-- the wires' pins, by position; the wires that each cell sees, position p with weight 2 ^ p; the rules, each its terms, term t with weight 2 ^ t; the excuses likewise
pub record Job : Type 0 where
  pub pins : List ℕ
  pub sees_a : ℕ
  pub sees_b : ℕ
  pub rules : List ℕ
  pub excuses : List ℕ

-- a job down to the count of its rules
pub record Head : Type 0 where
  pub wires : ℕ
  pub pins : List ℕ
  pub sees_a : ℕ
  pub sees_b : ℕ
  pub count : ℕ

-- what a sheet comes to
pub data Verdict : Type 0 where
  accepted : Job → Verdict
  rejected : Refusal → Verdict
