-- The solver's state: a list with a 0, a 1 or a 2 for each row, where 2 says that the row is not settled yet.
-- As in tables, claim L is settled true if `True S L`; an unsettled row makes none of its two claims true.
--     Spread     all that steps lead to from a claim
--     Good       a spread with no claim together with its opposite
--     Merged     the state after a good spread settled the rows that it reached
--     Partial    what holds of every state
--     Cause      why a row holds what it holds
--     Settling   what holds of the state when the rows below the current one are done
--     Explored   what a spread comes to
--     Answer     what a solver comes to
-- Assumes nothing.
use Rattle.std.specs.Prelude.{◌≡◌, Bool, true, false, List, ◌⊎◌, ℕ, ◌*◌, ◌-◌, ◌<◌, ◌≤◌, length}
use Rattle.board.specs.Board.{Board, rows, row, claim, opposite}
use Rattle.board.specs.Tables.{held, True, First}
use Rattle.answer.specs.Answer.{Entry}
use Rattle.board.specs.Walk.{Carries, Step, Stands, Reaches, Within}

-- no claim is in together with its opposite
abbrev pub Good : (ℕ → Bool) → Type 0
Good In = (L : ℕ) → In L ≡ true → In (opposite L) ≡ true → ⊥

module _ (B : Board) where
  -- the claims in the spread are c, with each claim all that steps lead to from it, and none that c does not reach
  pub record Spread (c : ℕ) (In : ℕ → Bool) : Type 0 where
    pub begins : In c ≡ true
    pub closed : (L M a : ℕ) → In L ≡ true → Step B L M a → In M ≡ true
    pub reached : (L : ℕ) → In L ≡ true → Reaches B c L

  -- a spread from c is good, or c reaches its opposite by few steps
  pub record Explored (c : ℕ) : Type 0 where
    pub In : ℕ → Bool
    pub spread : Spread c In
    pub verdict : Good In ⊎ Within B (2 * rows B - 1) c (opposite c)

  -- S' is S with the rows of the spread's claims settled as these say
  pub record Merged (In : ℕ → Bool) (S S' : List ℕ) : Type 0 where
    pub long : length S' ≡ rows B
    pub taken : (L : ℕ) → row L < rows B → In L ≡ true → True S' L
    pub kept : (r : ℕ) → r < rows B → In (claim r 0) ≡ false → In (claim r 1) ≡ false → held S' r ≡ held S r

  -- some rows are settled, and what is settled carries truth along every step
  pub record Partial (S : List ℕ) : Type 0 where
    pub long : length S ≡ rows B
    pub small : (r : ℕ) → r < rows B → held S r < 3
    pub closed : Carries B S

  -- row r was settled by a spread from a row that is not after it, and from a 1 claim only where the 0 claim reaches it
  pub record Cause (S : List ℕ) (r : ℕ) : Type 0 where
    pub from : ℕ
    pub bit : ℕ
    pub small : bit < 2
    pub early : from ≤ r
    pub holds : held S from ≡ bit
    pub reaches : Reaches B (claim from bit) (claim r (held S r))
    pub forced : bit ≡ 1 → Reaches B (claim from 0) (claim from 1)

  -- all rows below q are settled, and each settled row has a cause
  pub record Settling (S : List ℕ) (q : ℕ) : Type 0 where
    pub partial : Partial S
    pub cause : (r : ℕ) → r < rows B → held S r < 2 → Cause S r
    pub below : (r : ℕ) → r < q → held S r < 2

  -- what a solver answers: the first pair, or a walk that stands and is not long
  pub data Answer : Type 0 where
    tables : (T : List ℕ) → First B T → Answer
    walk : (w : List Entry) → Stands B w → length w ≤ 4 * rows B - 2 → Answer
