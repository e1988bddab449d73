-- A spread as it is made: n claims one after the other, at the places 0 to n - 1, the first c, each other by a step from a claim at an earlier place.
--     Trail    what holds of the places, with the place that each claim was reached from and the combination by which
--     Has      the claim is at some place
--     Grown    one place more
--     Whole    no step leads out
-- Assumes nothing.
use Rattle.std.specs.Prelude.{◌≡◌, ◌≢◌, ℕ, ◌<◌}
use Rattle.board.specs.Board.{Board}
use Rattle.board.specs.Walk.{Step}

abbrev pub Has : ℕ → (ℕ → ℕ) → ℕ → Type 0
Has n at M = (i : ℕ) × (i < n) × (at i ≡ M)

-- f and g agree below n
abbrev pub Agree : ℕ → (ℕ → ℕ) → (ℕ → ℕ) → Type 0
Agree n f g = (i : ℕ) → i < n → f i ≡ g i

module _ (B : Board) where
  pub record Trail (c n : ℕ) (at parent by : ℕ → ℕ) : Type 0 where
    pub some : 0 < n
    pub first : at 0 ≡ c
    pub earlier : (i : ℕ) → 0 < i → i < n → parent i < i
    pub steps : (i : ℕ) → 0 < i → i < n → Step B (at (parent i)) (at i) (by i)
    pub distinct : (i j : ℕ) → i < j → j < n → at i ≢ at j

  -- at place n now stands a claim that was not there, by a step from place k
  pub record Grown (n : ℕ) (at parent by at' parent' by' : ℕ → ℕ) : Type 0 where
    pub keeps : Agree n at' at
    pub keeps_parent : Agree n parent' parent
    pub keeps_by : Agree n by' by
    pub from : parent' n < n
    pub step : Step B (at (parent' n)) (at' n) (by' n)
    pub fresh : ¬ Has n at (at' n)

  abbrev pub Whole : ℕ → (ℕ → ℕ) → Type 0
  Whole n at = (i M a : ℕ) → i < n → Step B (at i) M a → Has n at M
