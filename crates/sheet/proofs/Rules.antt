-- A turn of the loop that reads rules, or excuses, and stores each, the next at place p. Assumes nothing.
use mathlib.Core.Path.{◌≡◌, ap}
use mathlib.Core.List.{List, ◌∷◌}
use Prim.Native.Nat.{ℕ, zero, suc, ◌+◌, ◌-◌, ◌≤◌, ◌<◌}
use native.Mathlib.Omega.{arith}
use lib.ListN.{set, length}
use lib.Seq.{sets}
use Rattle.steps.specs.declared.Refusal.{Refusal}
use Rattle.steps.specs.Step.{Step, got, refused, next, Reading}
use Rattle.sheet.specs.JobSheet.{counted_mask, rules}
use Rattle.sheet.specs.JobFound.{rules_pass, kept, cons_of}
use Rattle.steps.proofs.Entries.{assoc}

-- what is left of n rules, of which nothing but the place is told
abbrev pub rules_from : (left terms n : ℕ) → Reading ℕ
rules_from left terms n s at = next (rules left terms s at) (λ rs a. got n a)

pub rules-start : (n terms : ℕ) (s : List ℕ) (at : ℕ) → rules_pass n terms s at ≡ rules_from (n - 0) terms n s at
unfolding rules_pass
rules-start n terms s at = let e : n ≡ n - 0 = omega arith in ap (λ (j : ℕ). rules_from j terms n s at) e

pub kept-start : (n terms : ℕ) (s : List ℕ) (at : ℕ) (buf : List ℕ) (p : ℕ) → sets buf p (kept n terms s at) ≡ sets buf p (kept (n - 0) terms s at)
kept-start n terms s at buf p = let e : n ≡ n - 0 = omega arith in ap (λ (j : ℕ). sets buf p (kept j terms s at)) e

module _ (n i terms : ℕ) (s : List ℕ) (at : ℕ) where
  module _ (more : i < n) where
    one : n - i ≡ suc (n - (i + 1))
    one = omega arith

    pub rules-go : (r a : ℕ) → counted_mask terms terms s at ≡ got r a → rules_from (n - i) terms n s at ≡ rules_from (n - (i + 1)) terms n s a
    unfolding rules
    rules-go r a h = rw (one, h) (assoc (rules (n - (i + 1)) terms s a) (λ rs b. got (r ∷ rs) b) (λ rs b. got n b))

    pub rules-stop : (w : Refusal) → counted_mask terms terms s at ≡ refused w → rules_from (n - i) terms n s at ≡ refused w
    unfolding rules
    rules-stop w h = rw (one, h)

    -- the rule that was read is stored at p
    pub kept-go : (buf : List ℕ) (p r a : ℕ) → counted_mask terms terms s at ≡ got r a
        → sets buf p (kept (n - i) terms s at) ≡ sets (set buf p r) (p + 1) (kept (n - (i + 1)) terms s a)
    unfolding kept
    kept-go buf p r a h =
        let e : suc p ≡ p + 1 = omega arith in
        rw (one, h) (ap (λ (k : ℕ). sets (set buf p r) k (kept (n - (i + 1)) terms s a)) e)

    pub kept-stop : (buf : List ℕ) (p : ℕ) (w : Refusal) → counted_mask terms terms s at ≡ refused w → sets buf p (kept (n - i) terms s at) ≡ buf
    unfolding kept
    kept-stop buf p w h = rw (one, h)

  module _ (all : n ≤ i) where
    none : n - i ≡ 0
    none = omega arith

    pub rules-done : rules_from (n - i) terms n s at ≡ got n at
    unfolding rules
    rules-done = rw none

    pub kept-done : (buf : List ℕ) (p : ℕ) → sets buf p (kept (n - i) terms s at) ≡ buf
    unfolding kept
    kept-done buf p = rw none

-- no more are stored than were asked for
cons-few : (t : Step ℕ) (f : ℕ → List ℕ) (n : ℕ) → ((m : ℕ) → length (f m) ≤ n) → length (cons_of t f) ≤ suc n
cons-few (got r m) f n few = let rest = few m in omega arith
cons-few (refused w) f n few = omega arith

pub kept-few : (n terms : ℕ) (s : List ℕ) (at : ℕ) → length (kept n terms s at) ≤ n
unfolding kept
kept-few zero terms s at = omega arith
kept-few (suc n) terms s at = cons-few (counted_mask terms terms s at) (λ after. kept n terms s after) n (λ m. kept-few n terms s m)
