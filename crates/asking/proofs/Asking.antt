-- The tests of specs/Asks decide the meaning.
--     pins_decide      two lists of pins are equal
--     asks-iff         a job asks no more than another
-- Assumes nothing.
use Rattle.std.proofs.Common.{◌≡◌, ℕ, zero, suc, ◌<◌, true, ◌↔◌, Decides, List, [], ◌∷◌, length, get_or, refl, arith, rules}
use mathlib.Core.Bool.{and-eq-true_iff}
use Rattle.std.proofs.lemmas.Slice.Eq.{compares_Decides}
use Rattle.wires.specs.Terms.{containsb, some_within}
use Rattle.wires.proofs.Sets.{contains-iff, Within, some_to, some-from}
use Rattle.sheet.specs.Job.{Job}
use Rattle.board.proofs.Tests.{and_both}
use Rattle.asking.specs.Asks.{AsksNoMore, same_pins, all_within, asksb}

-- ---- pins

pub pins_decide : (xs ys : List ℕ) → Decides (same_pins xs ys) (xs ≡ ys)
unfolding same_pins
pins_decide = compares_Decides same_pins (search rules)

-- ---- sets

all-to : (ps rs : List ℕ) → all_within ps rs ≡ true → (i : ℕ) → i < length rs → Within ps (get_or rs i 0)
unfolding all_within
all-to ps [] e i l = absurd (omega arith)
all-to ps (r ∷ rs) e zero l = some_to ps r ((and-eq-true_iff (some_within ps r) (all_within ps rs)).0 e).0
all-to ps (r ∷ rs) e (suc i) l = all-to ps rs ((and-eq-true_iff (some_within ps r) (all_within ps rs)).0 e).1 i (omega arith)

all_from : (ps rs : List ℕ) → ((i : ℕ) → i < length rs → Within ps (get_or rs i 0)) → all_within ps rs ≡ true
unfolding all_within
all_from ps [] h = refl
all_from ps (r ∷ rs) h =
    let w = h 0 (omega arith) in
    and_both (some-from ps r w.0 w.1 w.2) (all_from ps rs (λ i l. h (suc i) (omega arith)))

-- ---- jobs

asks-to : (P Q : Job) → asksb P Q ≡ true → AsksNoMore P Q
unfolding asksb
asks-to P Q e =
    let a = (and-eq-true_iff (same_pins P.pins Q.pins) _).0 e in
    let b = (and-eq-true_iff (containsb Q.sees_a P.sees_a) _).0 a.1 in
    let c = (and-eq-true_iff (containsb Q.sees_b P.sees_b) _).0 b.1 in
    let d = (and-eq-true_iff (all_within P.rules Q.rules) _).0 c.1 in
    record {
      pins = (pins_decide P.pins Q.pins).0 a.0;
      sees_a = (contains-iff Q.sees_a P.sees_a).0 b.0;
      sees_b = (contains-iff Q.sees_b P.sees_b).0 c.0;
      rules = all-to P.rules Q.rules d.0;
      excuses = all-to Q.excuses P.excuses d.1;
    }

asks-from : (P Q : Job) → AsksNoMore P Q → asksb P Q ≡ true
unfolding asksb
asks-from P Q h =
    and_both ((pins_decide P.pins Q.pins).1 h.pins)
    (and_both ((contains-iff Q.sees_a P.sees_a).1 h.sees_a)
    (and_both ((contains-iff Q.sees_b P.sees_b).1 h.sees_b)
    (and_both (all_from P.rules Q.rules h.rules) (all_from Q.excuses P.excuses h.excuses))))

pub asks-iff : (P Q : Job) → (asksb P Q ≡ true) ↔ AsksNoMore P Q
asks-iff P Q = (asks-to P Q, asks-from P Q)
