-- The way back from a reached claim to the start, as entries of a walk.
--     Chain        the entries from a claim back to the start: the claim's opposite with the combination by which it was reached, and then the parent's
--     Backs        what `write_back` asks
--     Written      what `write_back` leaves
--     HalfWalk     entries that lead from a claim to its opposite: half of a walk that stands
-- Assumes nothing: these are definitions.
use Rattle.std.specs.Prelude.{ℕ, ◌+◌, ◌*◌, ◌-◌, ◌<◌, ◌≤◌, ◌≡◌, List, [], ◌∷◌, length, get_or}
use Rattle.answer.specs.Answer.{Entry}
use Rattle.answer.specs.Written.{fours, entry_at}
use Rattle.answer.specs.declared.page.Page.{Page}
use Rattle.answer.specs.Page.{Wrote}
use Rattle.board.specs.Board.{opposite}
use Rattle.board.specs.Walk.{start, Goes}
use Rattle.grid.specs.Grid.{claims, grid_board}
use Rattle.grid.specs.Grid.{Grid}

pub data Chain (from by : List ℕ) (first : ℕ) : ℕ → List Entry → Type 0 where
  here : Chain from by first first []
  edge : {c : ℕ} {es : List Entry} → (c ≡ first → ⊥) → Chain from by first (get_or from c 0) es → Chain from by first c (record { says = opposite c; by = get_or by c 0 } ∷ es)

-- a claim's parent stands at an earlier place of the queue
pub record Prior (queue from : List ℕ) (i : ℕ) : Type 0 where
  pub place : ℕ
  pub before : place < i
  pub is : get_or from (get_or queue i 0) 0 ≡ get_or queue place 0

-- the first r entries of the queue and their parents, as a spread leaves them, the target among them, and room for r - 1 entries
pub record Backs (queue from by : List ℕ) (r first target at : ℕ) (out : List ℕ) : Type 0 where
  pub begins : get_or queue 0 0 ≡ first
  pub priors : (i : ℕ) → 0 < i → i < r → Prior queue from i
  pub in_from : (i : ℕ) → i < r → get_or queue i 0 < length from
  pub in_by : (i : ℕ) → i < r → get_or queue i 0 < length by
  pub place : ℕ
  pub before : place < r
  pub is : get_or queue place 0 ≡ target
  pub room : at + 4 * r ≤ length out + 4

pub record Written (from by : List ℕ) (r first target : ℕ) (p q : Page) : Type 0 where
  pub entries : List Entry
  pub chain : Chain from by first target entries
  pub few : length entries < r
  pub wrote : Wrote p (fours entries) q

-- c reaches its opposite by these entries, and each is of a claim and a combination that there is
pub record HalfWalk (g : Grid) (c : ℕ) (es : List Entry) : Type 0 where
  pub start_of : start es (opposite c) ≡ c
  pub goes : Goes (grid_board g) es (opposite c)
  pub some : 1 ≤ length es
  pub few : length es ≤ claims g - 1
  pub claim : (i : ℕ) → i < length es → (entry_at es i).says < claims g
  pub combination : (i : ℕ) → i < length es → (entry_at es i).by < g.shape.combinations
