-- When a job asks no more than another (document 01, "Widening"; document 02, request 2).
--     AsksNoMore     the meaning
--     same_pins, all_within, asksb     the same as tests that compute
-- That the tests decide the meaning is proved in proofs/Asking. Assumes nothing: these are definitions.
use Rattle.std.specs.Prelude.{◌≡◌, Bool, true, false, ◌&&◌, List, [], ◌∷◌, ℕ, ◌<◌, eqb, length, get_or}
use Rattle.wires.specs.Terms.{Contains, containsb, some_within}
use Rattle.sheet.specs.Job.{Job}

-- Job Q asks no more than job P if their pins are equal, each cell of Q sees all wires that the same cell of P sees, each rule of Q contains all
-- terms of some rule of P, and each excuse of P contains all terms of some excuse of Q.
pub record AsksNoMore (P Q : Job) : Type 0 where
  pub pins : P.pins ≡ Q.pins
  pub sees_a : Contains Q.sees_a P.sees_a
  pub sees_b : Contains Q.sees_b P.sees_b
  pub rules : (i : ℕ) → i < length Q.rules → (k : ℕ) × (k < length P.rules) × Contains (get_or Q.rules i 0) (get_or P.rules k 0)
  pub excuses : (i : ℕ) → i < length P.excuses → (k : ℕ) × (k < length Q.excuses) × Contains (get_or P.excuses i 0) (get_or Q.excuses k 0)

unfoldable pub same_pins : List ℕ → List ℕ → Bool
same_pins [] [] = true
same_pins [] (y ∷ ys) = false
same_pins (x ∷ xs) [] = false
same_pins (x ∷ xs) (y ∷ ys) = eqb x y && same_pins xs ys

-- each set of the second list contains some set of the first
unfoldable pub all_within : List ℕ → List ℕ → Bool
all_within ps [] = true
all_within ps (r ∷ rs) = some_within ps r && all_within ps rs

unfoldable pub asksb : Job → Job → Bool
asksb P Q =
    same_pins P.pins Q.pins
    && (containsb Q.sees_a P.sees_a
    && (containsb Q.sees_b P.sees_b && (all_within P.rules Q.rules && all_within Q.excuses P.excuses)))
