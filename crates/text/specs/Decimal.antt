-- Numbers in decimal, as bytes. Assumes nothing: these are definitions.
use Rattle.std.specs.Prelude.{List, [], ◌∷◌, ◌++◌, ℕ, zero, suc, ◌+◌, ◌/◌, ◌%◌, ltb}
use Rattle.steps.specs.Step.{pick}

-- the digits of n, the highest first, where k is above their number
unfoldable pub decimal_in : (k n : ℕ) → List ℕ
decimal_in zero n = []
decimal_in (suc k) n = pick (ltb n 10) ((48 + n) ∷ []) (decimal_in k (n / 10) ++ ((48 + n % 10) ∷ []))

-- a number in decimal
abbrev pub decimal : ℕ → List ℕ
decimal n = decimal_in (suc n) n
