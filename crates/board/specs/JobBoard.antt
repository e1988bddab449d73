-- The board of a job: what its sheet means (document 01, "Numbers used"; document 02, request 2).
--     trueb, holdsb, breaksb     a term is true, a rule holds, some rule is broken, as tests that compute
--     excusesb, excusedb         an excuse's terms are all true, a combination is excused
--     faultb                     some rule is broken where it counts
--     broken_rule                 the lowest rule that is broken (document 02, request 4)
--     board_of                    the board of n wires, two seen sets, a list of rules and a list of excuses
--     job_board                   the board of a job
--     head_board, Sized           the board of a job in numbers, and what is known of these
-- That the tests decide what `Terms` of `wires` says is proved in proofs/Rules. Assumes nothing: these are definitions.
use Rattle.std.specs.Prelude.{Bool, false, not, ◌&&◌, ◌||◌, List, [], ◌∷◌, ℕ, zero, suc, ◌+◌, ◌*◌, ◌-◌, ◌/◌, ◌%◌, ◌^◌, ◌<◌, ◌≤◌, eqb, length, get_or, take, drop}
use Rattle.std.specs.Int.Count.{ones}
use Rattle.wires.specs.Wires.{wire, shown}
use Rattle.wires.specs.Terms.{value}
use Rattle.sheet.specs.declared.JobHead.{JobHead}
use Rattle.sheet.specs.Job.{Job}
use Rattle.sheet.specs.JobSheet.{wire_limit, seen_limit, wire_terms_of}
use Rattle.board.specs.Board.{Board}
use Rattle.board.specs.Tests.{all_below, lowest}

-- Term 2v is plain and 2v+1 negated: it is true where its variable has the value 1 or 0
abbrev pub trueb : (n a x y t : ℕ) → Bool
trueb n a x y t = eqb (value n a x y (t / 2)) (1 - t % 2)

-- some number below k passes
unfoldable pub any_below : (ℕ → Bool) → ℕ → Bool
any_below p zero = false
any_below p (suc k) = any_below p k || p k

-- A rule is a set of terms, one bit each, and holds if one of its terms does.
unfoldable pub holdsb : (n a x y rule : ℕ) → Bool
holdsb n a x y rule = any_below (λ t. eqb (wire rule t) 1 && trueb n a x y t) (2 * n + 4)

-- some rule is broken where the wires have the combination a, cell A has x and cell B has y
unfoldable pub breaksb : (n : ℕ) → List ℕ → (a x y : ℕ) → Bool
breaksb n [] a x y = false
breaksb n (rule ∷ rules) a x y = not (holdsb n a x y rule) || breaksb n rules a x y

-- the lowest-numbered rule that is broken there, from 0, or the number of rules where none is
unfoldable pub broken_rule : (n : ℕ) → List ℕ → (a x y : ℕ) → ℕ
broken_rule n rules a x y = lowest (λ i. not (holdsb n a x y (get_or rules i 0))) (length rules)

-- all terms of the excuse are true. They are terms of wires, below 2n, so the cells' values don't matter
unfoldable pub excusesb : (n a excuse : ℕ) → Bool
excusesb n a excuse = all_below (λ t. not (eqb (wire excuse t) 1) || trueb n a 0 0 t) (wire_terms_of n)

-- A combination at which all terms of some excuse hold is excused.
unfoldable pub excusedb : (n : ℕ) → List ℕ → (a : ℕ) → Bool
excusedb n [] a = false
excusedb n (excuse ∷ excuses) a = excusesb n a excuse || excusedb n excuses a

-- Tables must keep the rules only at combinations that aren't excused.
abbrev pub faultb : (n : ℕ) → (rules excuses : List ℕ) → (a x y : ℕ) → Bool
faultb n rules excuses a x y = not (excusedb n excuses a) && breaksb n rules a x y

abbrev pub board_of : (n sees_a sees_b : ℕ) → (rules excuses : List ℕ) → Board
board_of n sees_a sees_b rules excuses =
    record {
      rows_a = 2 ^ ones sees_a;
      rows_b = 2 ^ ones sees_b;
      combinations = 2 ^ n;
      show_a = shown n sees_a;
      show_b = shown n sees_b;
      breaks = faultb n rules excuses;
      rule = broken_rule n rules;
    }

abbrev pub job_board : Job → Board
job_board j = board_of (length j.pins) j.sees_a j.sees_b j.rules j.excuses

-- a job in numbers, with its rules and then its excuses at the front of a list
abbrev pub head_board : JobHead → List ℕ → Board
head_board h masks = board_of h.wires h.sees_a h.sees_b (take h.rules masks) (take h.excuses (drop h.rules masks))

pub record Sized (h : JobHead) (masks : List ℕ) : Type 0 where
  pub wires : h.wires ≤ wire_limit
  pub count : h.rules + h.excuses ≤ length masks
  -- an excuse has terms of wires alone
  pub excuses : (i : ℕ) → i < h.excuses → get_or masks (h.rules + i) 0 < 2 ^ wire_terms_of h.wires
  pub mask_a : h.sees_a < 2 ^ h.wires
  pub mask_b : h.sees_b < 2 ^ h.wires
  pub sees_a : ones h.sees_a ≤ seen_limit
  pub sees_b : ones h.sees_b ≤ seen_limit
