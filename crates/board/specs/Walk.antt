-- Steps, walks, and what it is to reach a claim.
-- Assumes nothing.
use Rattle.std.specs.Prelude.{◌≡◌, true, List, [], ◌∷◌, ◌⊎◌, ℕ, suc, ◌-◌, ◌<◌, ◌≤◌, length, get_or}
use Rattle.answer.specs.Answer.{Entry}
use Rattle.board.specs.Board.{Board, at_b, row, value, opposite}
use Rattle.board.specs.Tables.{True}

abbrev pub entry : List Entry → ℕ → Entry
entry w i = get_or w i (record { says = 0; by = 0 })

-- the claim is among those of the walk
abbrev pub Among : ℕ → List Entry → Type 0
Among c [] = ⊥
Among c (e ∷ es) = (c ≡ e.says) ⊎ Among c es

-- where a list of entries that leads to M begins
abbrev pub start : List Entry → ℕ → ℕ
start [] M = M
start (e ∷ es) M = e.says

module _ (B : Board) where
  -- L and M belong to different cells, a shows both rows, and with L true and M false some rule is broken at a
  pub data Step (L M a : ℕ) : Type 0 where
    from_a : a < B.combinations → row L ≡ B.show_a a → row M ≡ at_b B a → B.breaks a (value L) (1 - value M) ≡ true → Step L M a
    from_b : a < B.combinations → row L ≡ at_b B a → row M ≡ B.show_a a → B.breaks a (1 - value M) (value L) ≡ true → Step L M a

  -- truth is carried along every step
  abbrev pub Carries : List ℕ → Type 0
  Carries T = (L M a : ℕ) → True T L → Step L M a → True T M

  -- each entry's claim steps by its combination to the next entry's claim, and the last entry's to M
  abbrev pub Goes : List Entry → ℕ → Type 0
  Goes [] M = Unit {0}
  Goes (e ∷ es) M = Step e.says (start es M) e.by × Goes es M

  -- a walk is not empty, goes from its first claim back to it, and has the opposite of its first claim among its claims
  abbrev pub Stands : List Entry → Type 0
  Stands [] = ⊥
  Stands (e ∷ es) = Goes (e ∷ es) e.says × Among (opposite e.says) (e ∷ es)

  -- some steps lead from L to M
  pub record Reaches (L M : ℕ) : Type 0 where
    pub entries : List Entry
    pub begins : start entries M ≡ L
    pub goes : Goes entries M

  -- by at most n of them
  pub record Within (n L M : ℕ) : Type 0 where
    pub reaches : Reaches L M
    pub short : length reaches.entries ≤ n

  -- the same by numbers, as a loop tests it: the entries of a walk are 0 to length w - 1
  pub record StandsAt (w : List Entry) : Type 0 where
    pub some : 0 < length w
    pub onward : (i : ℕ) → suc i < length w → Step (entry w i).says (entry w (suc i)).says (entry w i).by
    pub back : Step (entry w (length w - 1)).says (entry w 0).says (entry w (length w - 1)).by
    pub meets : (i : ℕ) × (i < length w) × ((entry w i).says ≡ opposite (entry w 0).says)
