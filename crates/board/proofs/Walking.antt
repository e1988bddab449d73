-- A walk as it stands in a sheet: the search for the opposite of its first claim, and its judgement against that of its entries.
--     flip           two opposite claims differ in the last bit
--     any-found      what `any` tells of the range of the numbers below n
--     Placed         the entries of a list stand at their places in the sheet
--     any-among      the places have the opposite of the first claim exactly where the entries have it
--     walk-in        the judgement of the places is that of the entries
-- Assumes nothing.
use mathlib.Core.Path.{◌≡◌, sym, ap, ◌∙◌}
use mathlib.Core.Bool.{true, false, not, false≢true}
use mathlib.Core.List.{List}
use mathlib.Core.Logic.{⊎_elim}
use Prim.Native.Nat.{ℕ, ◌/◌, ◌<◌}
use native.Mathlib.Omega.{arith}
use lib.Bits.{bit_xor, differ, xor_step, xor_zero_r}
use lib.ListN.{length}
use borrow.Author.Tests.{eqb-true, eq-eqb}
use Rattle.std.proofs.lemmas.Bool.{false_from_ne_true}
use Rattle.wires.proofs.Digits.{low_digit}
use Rattle.wires.proofs.Sets.{same_test}
use Rattle.sheet.specs.declared.JobHead.{JobHead}
use Rattle.answer.specs.Answer.{Entry}
use Rattle.std.specs.Prelude.{Bool, MatchBool}
use Rattle.std.specs.List.{range_with_len, AllWithin, HoldsAt}
use Rattle.std.proofs.lemmas.List.FromFn.{length-range_with_len}
use Rattle.board.specs.Board.{opposite}
use Rattle.board.specs.Walk.{entry}
use Rattle.board.specs.Tests.{amongb}
use Rattle.board.specs.JobBoard.{any_below, head_board}
use Rattle.board.specs.Check.{step_at, judge_walk}
use Rattle.board.specs.Places.{claim_in, combination_in, after_of, step_in, opposed_in, walk_in}
use Rattle.board.proofs.Numbered.{among-at, at-among}
use Rattle.board.proofs.Tests.{amongb-iff}
use Rattle.board.proofs.Rules.{any_below-some}
use Rattle.board.proofs.Lowest.{lowest-same, each-below, one-below}

pub flip : (x : ℕ) → bit_xor x 1 ≡ opposite x
flip x =
    ⊎_elim (λ e. omega (arith, xor_step x 1, xor_zero_r (x / 2), ap (λ (d : ℕ). differ d 1) e))
    (λ e. omega (arith, xor_step x 1, xor_zero_r (x / 2), ap (λ (d : ℕ). differ d 1) e))
    (low_digit x)

-- some item passes, or none does
pub any-found : (p : ℕ → Bool) (n : ℕ) (r : Bool)
    → MatchBool r ((k : ℕ) × (k < length (range_with_len 0 n)) × HoldsAt (λ i. p i ≡ true) (range_with_len 0 n) k) (AllWithin (λ i. p i ≡ false) (range_with_len 0 n) 0 (length (range_with_len 0 n)))
    → r ≡ any_below p n
any-found p n true h =
    let t = one-below (λ i. p i ≡ true) n h.0 h.1 h.2 in
    sym ((any_below-some p n).1 (h.0, t.0, t.1))
any-found p n false h =
    let all = each-below (λ i. p i ≡ false) n n (rw length-range_with_len at h) (omega arith) in
    sym (false_from_ne_true (any_below p n) (λ e. let t = (any_below-some p n).0 e in false≢true (sym (all t.0 t.1) ∙ t.2)))

-- ---- the places and the entries

abbrev pub Placed : List ℕ → List Entry → Type 0
Placed s es = (i : ℕ) → i < length es → (claim_in s i ≡ (entry es i).says) × (combination_in s i ≡ (entry es i).by)

module _ (s : List ℕ) (es : List Entry) (placed : Placed s es) (some : 0 < length es) where
  pub any-among : any_below (opposed_in s) (length es) ≡ amongb (opposite (entry es 0).says) es
  any-among = same_test (any_below (opposed_in s) (length es)) (amongb c es) to from
    where
      c : ℕ
      c = opposite (entry es 0).says

      -- it is the one that the places are tested for
      is_c : opposite (claim_in s 0) ≡ c
      is_c = ap opposite (placed 0 some).0

      to : any_below (opposed_in s) (length es) ≡ true → amongb c es ≡ true
      to e =
          let t = (any_below-some (opposed_in s) (length es)).0 e in
          (amongb-iff c es).1 (among-at c es t.0 t.1 (sym (placed t.0 t.1).0 ∙ eqb-true (claim_in s t.0) (opposite (claim_in s 0)) t.2 ∙ is_c))

      from : amongb c es ≡ true → any_below (opposed_in s) (length es) ≡ true
      from e =
          let t = at-among c es ((amongb-iff c es).0 e) in
          (any_below-some (opposed_in s) (length es)).1
          (t.0, t.1, eq-eqb (claim_in s t.0) (opposite (claim_in s 0)) ((placed t.0 t.1).0 ∙ t.2 ∙ sym is_c))

  after-within : (i : ℕ) → i < length es → after_of (length es) i < length es
  after-within i l = grind (arith, some)

  step_in-is : (h : JobHead) (masks : List ℕ) (i : ℕ) → i < length es → step_in h masks s (length es) i ≡ step_at (head_board h masks) es i
  step_in-is h masks i l = rw ((placed i l).0, (placed i l).1, (placed (after_of (length es) i) (after-within i l)).0)

pub walk-in : (h : JobHead) (masks s : List ℕ) (es : List Entry) → Placed s es → 0 < length es → walk_in h masks s (length es) ≡ judge_walk (head_board h masks) es
unfolding judge_walk
walk-in h masks s es placed some =
    rw (
      lowest-same (λ i. not (step_in h masks s (length es) i)) (λ i. not (step_at (head_board h masks) es i)) (length es) (λ i l. ap not (step_in-is s es placed some h masks i l)),
      any-among s es placed some,
    )
