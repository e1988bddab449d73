-- The tests of specs/JobBoard decide what specs/Terms of `wires` says.
--     any_below-some       some number below k passes
--     trueb-iff       a term is true
--     holdsb-iff      a rule holds
--     breaksb-iff     some rule of a list is broken
--     excusesb-iff    an excuse's terms are all true
--     excusedb-iff    a combination is excused by a list
--     faultb-iff      some rule is broken where it counts
--     counted-holds   where it counts and none is, each rule holds
--     rule-among, rule-breaks, rule-least     the lowest broken rule is a rule, is broken, and each below it holds
--     rule-is         a rule of which this is true is the lowest broken one
--     front-faultb    the same of a list that has the rules and then the excuses at its front
--     front-some      some item of a list's front passes
--     behind, behind-is, excuses-there      the slice of the masks behind the rules, where the excuses stand
--     excused-more    if each excuse of a list contains all terms of some excuse of another, what the one excuses so does the other
--     excused-by      a combination is excused exactly where the set of the true terms contains an excuse
--     first-breaks, first-rule     the first rule that no true term is in: some rule is broken, and it is the lowest
--     first-none      there is no such rule: none is broken
-- Assumes nothing.
use mathlib.Core.Path.{◌≡◌, refl, sym, ap, subst, ◌∙◌}
use mathlib.Core.Bool.{Bool, true, false, not, ◌&&◌, ◌||◌, false≢true}
use mathlib.Core.List.{List, [], ◌∷◌}
use mathlib.Core.Logic.{◌↔◌, inl, inr, ⊎_elim, by_cases}
use Prim.Native.Nat.{ℕ, ◌+◌, ◌*◌, ◌-◌, ◌/◌, ◌%◌, ◌^◌, ◌<◌, ◌≤◌}
use native.Mathlib.Decide.{dec_lt, ℕ_discrete}
use native.Mathlib.Omega.{arith}
use lib.Dec.{eqb}
use lib.ListN.{length, get_or, take, drop, length-drop}
use lib.Seq.{take_all, get_or-take, length-take-le}
use borrow.Author.Tests.{not-true, not-false}
use Rattle.std.proofs.lemmas.Bool.{false_from_ne_true, true_from_ne_false}
use Rattle.std.proofs.lemmas.Bool.Decides.{Decides-like, Decides-not, Decides-and, Decides-or, Decides-eqb, Decides-by_or, Decides-below_or}
use Rattle.std.proofs.lemmas.List.{get_or_default}
use Rattle.wires.specs.Wires.{wire}
use Rattle.wires.specs.Terms.{value, IsTrue, Holds, Breaks, Fault, Truths, BrokenAt, Meets, Excuses, Excused, Contains, some_within}
use Rattle.wires.proofs.Digits.{low_digit}
use Rattle.wires.proofs.Terms.{holds}
use Rattle.wires.proofs.Sets.{same_test, some_to, some-from, excuse-within}
use Rattle.sheet.specs.declared.JobHead.{JobHead}
use Rattle.board.specs.JobBoard.{Sized, trueb, any_below, holdsb, breaksb, broken_rule, excusesb, excusedb, faultb}
use Rattle.board.specs.Tests.{lowest}
use Rattle.board.proofs.Tests.{below-iff}
use Rattle.board.proofs.Lowest.{lowest-at, lowest-least, lowest-is}

-- ---- some number below k passes

or_turned : (a b : Bool) → a || b ≡ b || a
or_turned true true = refl
or_turned true false = refl
or_turned false true = refl
or_turned false false = refl

-- where passing is the fact P
some-below : (p : ℕ → Bool) (P : ℕ → Type 0) → ((t : ℕ) → (p t ≡ true) ↔ P t) → (k : ℕ) → (any_below p k ≡ true) ↔ ((t : ℕ) × (t < k) × P t)
unfolding any_below
some-below p P each k = Decides-below_or p P (any_below p) each refl (λ n. or_turned (any_below p n) (p n)) k

pub any_below-some : (p : ℕ → Bool) (k : ℕ) → (any_below p k ≡ true) ↔ ((t : ℕ) × (t < k) × (p t ≡ true))
any_below-some p k = some-below p (λ t. p t ≡ true) (λ t. (λ e. e, λ e. e)) k

-- ---- some item of a list passes, by a test f that is made of the test p of each

some-item : (p : ℕ → Bool) (P : ℕ → Type 0) (f : List ℕ → Bool) → ((x : ℕ) → (p x ≡ true) ↔ P x) → f [] ≡ false → ((x : ℕ) (xs : List ℕ) → f (x ∷ xs) ≡ (p x || f xs))
    → (xs : List ℕ) → (f xs ≡ true) ↔ ((i : ℕ) × (i < length xs) × P (get_or xs i 0))
some-item p P f each none more xs =
    Decides-like (f xs) (λ s. (s.0, s.1, s.2 0)) (λ s. (s.0, s.1, λ d. subst P (get_or_default xs s.0 0 d s.1) s.2)) (Decides-by_or p P f each none more xs)

-- ---- a term, a rule, a list of rules

pub trueb-iff : (n a x y t : ℕ) → (trueb n a x y t ≡ true) ↔ IsTrue n a x y t
trueb-iff n a x y t =
    Decides-like (trueb n a x y t) (λ e. ⊎_elim (λ d. inl (d, omega arith)) (λ d. inr (d, omega arith)) (low_digit t)) (λ h. ⊎_elim (λ p. omega arith) (λ p. omega arith) h)
    (Decides-eqb (value n a x y (t / 2)) (1 - t % 2))

pub holdsb-iff : (n a x y rule : ℕ) → (holdsb n a x y rule ≡ true) ↔ Holds n a x y rule
unfolding holdsb
holdsb-iff n a x y rule =
    Decides-like (holdsb n a x y rule) (λ s. (s.0, s.1, s.2.0, s.2.1)) (λ h. (h.0, h.1, (h.2, h.3)))
    (some-below (λ t. eqb (wire rule t) 1 && trueb n a x y t) (λ t. (wire rule t ≡ 1) × IsTrue n a x y t)
    (λ t. Decides-and (eqb (wire rule t) 1) (trueb n a x y t) (Decides-eqb (wire rule t) 1) (trueb-iff n a x y t)) (2 * n + 4))

pub breaksb-iff : (n : ℕ) (rules : List ℕ) (a x y : ℕ) → (breaksb n rules a x y ≡ true) ↔ Fault n rules (length rules) a x y
unfolding breaksb
breaksb-iff n rules a x y =
    some-item (λ rule. not (holdsb n a x y rule)) (Breaks n a x y) (λ rs. breaksb n rs a x y) (λ rule. Decides-not (holdsb n a x y rule) (holdsb-iff n a x y rule)) refl (λ r rs. refl) rules

-- ---- an excuse, a list of excuses

-- a term that isn't in the excuse or is true
kept-iff : (n a excuse t : ℕ) → (not (eqb (wire excuse t) 1) || trueb n a 0 0 t ≡ true) ↔ (wire excuse t ≡ 1 → IsTrue n a 0 0 t)
kept-iff n a excuse t =
    Decides-like (not (eqb (wire excuse t) 1) || trueb n a 0 0 t) (λ s h. ⊎_elim (λ ne. absurd (ne h)) (λ is. is) s)
    (λ f. by_cases (ℕ_discrete (wire excuse t) 1) (λ e. inr (f e)) (λ ne. inl ne))
    (Decides-or (not (eqb (wire excuse t) 1)) (trueb n a 0 0 t) (Decides-not (eqb (wire excuse t) 1) (Decides-eqb (wire excuse t) 1)) (trueb-iff n a 0 0 t))

pub excusesb-iff : (n a excuse : ℕ) → (excusesb n a excuse ≡ true) ↔ Excuses n a excuse
unfolding excusesb
excusesb-iff n a excuse =
    below-iff (λ t. not (eqb (wire excuse t) 1) || trueb n a 0 0 t) (λ t. wire excuse t ≡ 1 → IsTrue n a 0 0 t) (kept-iff n a excuse) (2 * n)

pub excusedb-iff : (n : ℕ) (excuses : List ℕ) (a : ℕ) → (excusedb n excuses a ≡ true) ↔ Excused n excuses (length excuses) a
unfolding excusedb
excusedb-iff n excuses a = some-item (excusesb n a) (Excuses n a) (λ es. excusedb n es a) (excusesb-iff n a) refl (λ e es. refl) excuses

pub excused-more : (n : ℕ) (es fs : List ℕ) (a : ℕ)
    → ((i : ℕ) → i < length es → (k : ℕ) × (k < length fs) × Contains (get_or es i 0) (get_or fs k 0))
    → excusedb n es a ≡ true → excusedb n fs a ≡ true
excused-more n es fs a more e =
    let x = (excusedb-iff n es a).0 e in
    let k = more x.0 x.1 in
    (excusedb-iff n fs a).1 (k.0, k.1, λ t l h. x.2 t l (k.2 t h))

-- ---- some rule is broken where it counts

pub faultb-iff : (n : ℕ) (rules excuses : List ℕ) (a x y : ℕ)
    → (faultb n rules excuses a x y ≡ true) ↔ (Fault n rules (length rules) a x y × (Excused n excuses (length excuses) a → ⊥))
faultb-iff n rules excuses a x y =
    Decides-like (faultb n rules excuses a x y) (λ f. (f.1, f.0)) (λ f. (f.1, f.0))
    (Decides-and (not (excusedb n excuses a)) (breaksb n rules a x y) (Decides-not (excusedb n excuses a) (excusedb-iff n excuses a)) (breaksb-iff n rules a x y))

-- where it counts and none is broken, each rule holds
pub counted-holds : (n : ℕ) (rules excuses : List ℕ) (a x y : ℕ) → faultb n rules excuses a x y ≡ false → (Excused n excuses (length excuses) a → ⊥)
    → (i : ℕ) → i < length rules → Holds n a x y (get_or rules i 0)
counted-holds n rules excuses a x y e free i l =
    (holdsb-iff n a x y (get_or rules i 0)).0
    (true_from_ne_false (holdsb n a x y (get_or rules i 0))
    (λ q. false≢true (sym e ∙ (faultb-iff n rules excuses a x y).1 ((i, l, λ h. false≢true (sym q ∙ (holdsb-iff n a x y (get_or rules i 0)).1 h)), free))))

-- ---- the lowest rule that is broken

module _ (n : ℕ) (rules : List ℕ) (a x y : ℕ) where
  abbrev fails-at : ℕ → Bool
  fails-at i = not (holdsb n a x y (get_or rules i 0))

  pub rule-least : (i : ℕ) → i < broken_rule n rules a x y → Holds n a x y (get_or rules i 0)
  unfolding broken_rule
  rule-least i l = (holdsb-iff n a x y (get_or rules i 0)).0 (not-false (holdsb n a x y (get_or rules i 0)) (lowest-least fails-at (length rules) i l))

  pub rule-among : Fault n rules (length rules) a x y → broken_rule n rules a x y < length rules
  rule-among f =
      by_cases (dec_lt (broken_rule n rules a x y) (length rules)) (λ l. l) (λ h. absurd (f.2 (rule-least f.0 (omega (arith, f.1)))))

  pub rule-breaks : broken_rule n rules a x y < length rules → Breaks n a x y (get_or rules (broken_rule n rules a x y) 0)
  unfolding broken_rule
  rule-breaks l h =
      false≢true (sym (not-true (holdsb n a x y (get_or rules (lowest fails-at (length rules)) 0)) (lowest-at fails-at (length rules) l))
      ∙ (holdsb-iff n a x y (get_or rules (lowest fails-at (length rules)) 0)).1 h)

  pub rule-is : (r : ℕ) → r < length rules → Breaks n a x y (get_or rules r 0) → ((i : ℕ) → i < r → Holds n a x y (get_or rules i 0)) → r ≡ broken_rule n rules a x y
  unfolding broken_rule
  rule-is r l broken before =
      lowest-is fails-at (length rules) r l
      (ap not (false_from_ne_true (holdsb n a x y (get_or rules r 0)) (λ e. broken ((holdsb-iff n a x y (get_or rules r 0)).0 e))))
      (λ i h. ap not ((holdsb-iff n a x y (get_or rules i 0)).1 (before i h)))

-- only the first `count` of a list are looked at
pub front-some : (P : ℕ → Type 0) (s : List ℕ) (count : ℕ) → count ≤ length s
    → ((i : ℕ) × (i < length (take count s)) × P (get_or (take count s) i 0)) ↔ ((i : ℕ) × (i < count) × P (get_or s i 0))
front-some P s count long =
    let few = length-take-le count s long in (
      λ x. let h : x.0 < count = omega (arith, x.1) in (x.0, h, rw (get_or-take count s x.0 0 h) at x.2),
      λ x. (x.0, omega (arith, x.1), rw (get_or-take count s x.0 0 x.1) x.2),
    )

pub front-faultb : (n : ℕ) (masks : List ℕ) (count k a x y : ℕ) → count + k ≤ length masks
    → (faultb n (take count masks) (take k (drop count masks)) a x y ≡ true) ↔ (Fault n masks count a x y × (Excused n (drop count masks) k a → ⊥))
front-faultb n masks count k a x y long =
    let test = faultb-iff n (take count masks) (take k (drop count masks)) a x y in
    let rules = front-some (Breaks n a x y) masks count (omega arith) in
    let excuses = front-some (Excuses n a) (drop count masks) k (omega (arith, length-drop count masks)) in (
      λ e. let f = test.0 e in (rules.0 f.0, λ h. f.1 (excuses.1 h)),
      λ f. test.1 (rules.1 f.0, λ h. f.1 (excuses.0 h)),
    )

-- the excuses stand behind the rules: what the slice of the masks from that place on is
abbrev pub behind : JobHead → List ℕ → List ℕ
behind h masks = take (length masks - h.rules) (drop h.rules masks)

pub behind-is : (h : JobHead) (masks : List ℕ) → behind h masks ≡ drop h.rules masks
behind-is h masks = take_all (length masks - h.rules) (drop h.rules masks) (omega (arith, length-drop h.rules masks))

pub excuses-there : (h : JobHead) (masks : List ℕ) → Sized h masks → h.excuses ≤ length (behind h masks)
excuses-there h masks z = rw (behind-is h masks) (omega (arith, z.count, length-drop h.rules masks))

-- ---- the excuses and the rules, held against the set of the true terms

pub excused-by : (n a x y : ℕ) (excuses : List ℕ) (set : ℕ) → Truths n a x y set → ((i : ℕ) → i < length excuses → get_or excuses i 0 < 2 ^ (2 * n))
    → some_within excuses set ≡ excusedb n excuses a
excused-by n a x y excuses set t small =
    same_test (some_within excuses set) (excusedb n excuses a)
    (λ e. let w = some_to excuses set e in (excusedb-iff n excuses a).1 (w.0, w.1, (excuse-within n a x y (get_or excuses w.0 0) set t (small w.0 w.1)).0 w.2))
    (λ e. let w = (excusedb-iff n excuses a).0 e in some-from excuses set w.0 w.1 ((excuse-within n a x y (get_or excuses w.0 0) set t (small w.0 w.1)).1 w.2))

-- the first of the rules that no true term is in
module _ (n a x y : ℕ) (rules : List ℕ) (set : ℕ) (t : Truths n a x y set) where
  -- it is r
  module _ (r : ℕ) (f : BrokenAt rules set r) where
    there : Breaks n a x y (get_or rules r 0)
    there h = f.broken ((holds n a x y (get_or rules r 0) set t).1 h)

    pub first-breaks : breaksb n rules a x y ≡ true
    first-breaks = (breaksb-iff n rules a x y).1 (r, f.within, there)

    pub first-rule : r ≡ broken_rule n rules a x y
    first-rule = rule-is n rules a x y r f.within there (λ i l. (holds n a x y (get_or rules i 0) set t).0 (f.before i l))

  pub first-none : ((i : ℕ) → i < length rules → Meets (get_or rules i 0) set) → breaksb n rules a x y ≡ false
  first-none each =
      false_from_ne_true (breaksb n rules a x y)
      (λ e. let b = (breaksb-iff n rules a x y).0 e in b.2 ((holds n a x y (get_or rules b.0 0) set t).0 (each b.0 b.1)))
