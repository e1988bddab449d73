-- What a reading step of the code answers, of the definitions' answers. Assumes nothing: these are definitions.
use Rattle.std.specs.Prelude.{ℕ, leb, Result, Ok, Err}
use Rattle.steps.specs.declared.Refusal.{Refusal}
use Rattle.steps.specs.declared.Refusal.TheVariants.{TooMany}
use Rattle.steps.specs.Step.{Step, got, refused, pick}

-- a number with the next place, or the refusal
abbrev pub Read : Type 0
Read = Result (ℕ × ℕ) Refusal

-- a step that finds a number, as the reader answers it
abbrev pub as_read : Step ℕ → Read
as_read (got n at) = Ok (n, at)
as_read (refused w) = Err w

-- a count that was read from the place `first` on, as `within` of JobSheet judges it
unfoldable pub within_of : (most first : ℕ) → Read → Read
within_of most first (Ok (n, at)) = pick (leb n most) (Ok (n, at)) (Err (TooMany first))
within_of most first (Err w) = Err w
