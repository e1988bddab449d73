-- A reading step: what is found at a place of a sheet. The sheet and the place reached travel together.
-- Assumes nothing: these are definitions.
use Rattle.std.specs.Prelude.{ℕ, Bool, true, false, List}
use Rattle.steps.specs.declared.Refusal.{Refusal}

-- a value and the place after it, or the refusal
pub data Step (A : Type 0) : Type 0 where
  got : A → ℕ → Step A
  refused : Refusal → Step A

-- from a sheet and a place of it
abbrev pub Reading : Type 0 → Type 0
Reading A = List ℕ → ℕ → Step A

-- the first fault decides: what follows a refused step is not read
abbrev pub next : {A B : Type 0} → Step A → (A → ℕ → Step B) → Step B
next (got a at) f = f a at
next (refused w) f = refused w

infixl 20 ◌>>=◌
abbrev pub ◌>>=◌ : {A B : Type 0} → Reading A → (A → Reading B) → Reading B
◌>>=◌ m f = λ s at. next (m s at) (λ a after. f a s after)

-- a value that takes no bytes
abbrev pub give : {A : Type 0} → A → Reading A
give a s at = got a at

-- the first where the test passes, the second where it fails
abbrev pub pick : {X : Type 0} → Bool → X → X → X
pick true a b = a
pick false a b = b
