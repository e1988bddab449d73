-- Sets and their entries, there and back, and what judging entries asks of them.
--     Rising                             entries that rise strictly, none lower than `least`, each below a limit
--     members-mask, mask-members         the entries of a set of entries, and the set of a set's entries
--     members-rise                       the entries of a set rise
--     below-fine, fine-below             entries of a set that were judged fine, and those that are
--     pins-fine, fine-pins               and so for pins
-- Assumes nothing.
use mathlib.Core.Path.{◌≡◌, refl, sym, ap, ◌∙◌}
use mathlib.Core.Logic.{⊎_elim, by_cases}
use mathlib.Core.List.{List, [], ◌∷◌}
use Prim.Native.Nat.{ℕ, zero, suc, ◌+◌, ◌-◌, ◌*◌, ◌/◌, ◌^◌, ◌≤◌, ◌<◌}
use native.Mathlib.Decide.{dec_le}
use native.Mathlib.Omega.{arith}
use borrow.Author.Tests.{lt-ltb, le-leb, ltb-true, leb-true}
use lib.Dec.{ltb, leb}
use lib.ListN.{length, get_or}
use Rattle.std.specs.Prelude.{Ok}
use Rattle.sheet.specs.JobSheet.{pin_limit, mask_of}
use Rattle.wires.proofs.Digits.{low_digit, half-below}
use Rattle.answer.specs.Written.{Bytes}
use Rattle.writer.specs.declared.Section.{Section}
use Rattle.writer.specs.JobWritten.{members_from, members}
use Rattle.writer.specs.Writing.{pins_rise, all_below}
use Rattle.writer.proofs.Sets.{members-off, members-on, members-none}
use Rattle.writer.proofs.Judging.{picked-fine}

abbrev pub Rising : (least limit : ℕ) → List ℕ → Type 0
Rising least limit [] = Unit {0}
Rising least limit (e ∷ es) = (least ≤ e) × (e < limit) × Rising (e + 1) limit es

rising-from : (low least limit : ℕ) (es : List ℕ) → low ≤ least → Rising least limit es → Rising low limit es
rising-from low least limit [] l r = tt
rising-from low least limit (e ∷ es) l r = (omega arith, r.1, r.2)

pub rising-lt : (least limit : ℕ) (es : List ℕ) → Rising least limit es → (i : ℕ) → i < length es → get_or es i 0 < limit
rising-lt least limit [] r i h = absurd (omega arith)
rising-lt least limit (e ∷ es) r zero h = r.1
rising-lt least limit (e ∷ es) r (suc i) h = rising-lt (e + 1) limit es r.2 i (omega arith)

-- ---- sets

-- the set of the entries, whose digits from p on these are
shifted : (p : ℕ) → List ℕ → ℕ
shifted p [] = 0
shifted p (e ∷ es) = 2 ^ (e - p) + shifted p es

shifted-mask : (es : List ℕ) → shifted 0 es ≡ mask_of es
unfolding shifted mask_of
shifted-mask [] = refl
shifted-mask (e ∷ es) =
    let place : e - 0 ≡ e = omega arith in
    omega (arith, ap (λ (k : ℕ). 2 ^ k) place, shifted-mask es)

shifted-twice : (p least limit : ℕ) (es : List ℕ) → p < least → Rising least limit es → shifted p es ≡ shifted (p + 1) es * 2
unfolding shifted
shifted-twice p least limit [] l r = refl
shifted-twice p least limit (e ∷ es) l r =
    let more : e - p ≡ suc (e - (p + 1)) = omega arith in
    omega (arith, ap (λ (k : ℕ). 2 ^ k) more, shifted-twice p (e + 1) limit es (omega arith) r.2)

shifted-first : (p limit : ℕ) (es : List ℕ) → Rising (p + 1) limit es → shifted p (p ∷ es) ≡ 1 + shifted (p + 1) es * 2
unfolding shifted
shifted-first p limit es r =
    let none : p - p ≡ 0 = omega arith in
    omega (arith, ap (λ (k : ℕ). 2 ^ k) none, shifted-twice p (p + 1) limit es (omega arith) r)

-- a digit more
module _ (k p m n : ℕ) where
  more-off : m ≡ n * 2 → members_from (suc k) p m ≡ members_from k (p + 1) n
  more-off e = let half : m / 2 ≡ n = omega arith in members-off k p m (omega arith) ∙ ap (members_from k (p + 1)) half

  more-on : m ≡ 1 + n * 2 → members_from (suc k) p m ≡ p ∷ members_from k (p + 1) n
  more-on e = let half : m / 2 ≡ n = omega arith in members-on k p m (omega arith) ∙ ap (λ (x : ℕ). p ∷ members_from k (p + 1) x) half

none_left : (p m : ℕ) → members_from 0 p m ≡ []
unfolding members_from
none_left p m = refl

none-shifted : (p : ℕ) → shifted p [] ≡ 0
unfolding shifted
none-shifted p = refl

members-shifted : (k p limit : ℕ) (es : List ℕ) → limit ≤ p + k → Rising p limit es → members_from k p (shifted p es) ≡ es
members-shifted k p limit [] l r = rw (none-shifted p) (members-none k p)
members-shifted zero p limit (e ∷ es) l r = absurd (omega arith)
members-shifted (suc k) p limit (e ∷ es) l r =
    by_cases (dec_le e p)
    (λ h. let same : e ≡ p = omega arith in
    let rest : Rising (p + 1) limit es = rw same at r.2 in
    ap (λ (x : ℕ). members_from (suc k) p (shifted p (x ∷ es))) same
    ∙ more-on k p (shifted p (p ∷ es)) (shifted (p + 1) es) (shifted-first p limit es rest)
    ∙ (λ i. sym same i ∷ members-shifted k (p + 1) limit es (omega arith) rest i))
    (λ h. let later : Rising (p + 1) limit (e ∷ es) = (omega arith, r.1, r.2) in
    more-off k p (shifted p (e ∷ es)) (shifted (p + 1) (e ∷ es)) (shifted-twice p (p + 1) limit (e ∷ es) (omega arith) later)
    ∙ members-shifted k (p + 1) limit (e ∷ es) (omega arith) later)

members-from : (k p limit m : ℕ) → p + k ≤ limit → Rising p limit (members_from k p m)
members-from zero p limit m l = rw (none_left p m) tt
members-from (suc k) p limit m l =
    let ih : Rising (p + 1) limit (members_from k (p + 1) (m / 2)) = members-from k (p + 1) limit (m / 2) (omega arith) in
    ⊎_elim (λ e. rw (members-off k p m e) (rising-from p (p + 1) limit (members_from k (p + 1) (m / 2)) (omega arith) ih))
    (λ e. rw (members-on k p m e) (omega arith, omega arith, ih))
    (low_digit m)

shifted-members : (k p m : ℕ) → m < 2 ^ k → shifted p (members_from k p m) ≡ m
shifted-members zero p m h = rw (none_left p m, none-shifted p) (omega arith)
shifted-members (suc k) p m h =
    let es = members_from k (p + 1) (m / 2) in
    let rise : Rising (p + 1) (p + 1 + k) es = members-from k (p + 1) (p + 1 + k) (m / 2) (omega arith) in
    let ih : shifted (p + 1) es ≡ m / 2 = shifted-members k (p + 1) (m / 2) (half-below k h) in
    ⊎_elim (λ e. rw (members-off k p m e) (omega (arith, ih, shifted-twice p (p + 1) (p + 1 + k) es (omega arith) rise)))
    (λ e. rw (members-on k p m e) (omega (arith, ih, shifted-first p (p + 1 + k) es rise)))
    (low_digit m)

pub members-rise : (m : ℕ) → Rising 0 32 (members m)
members-rise m = members-from 32 0 32 m (omega arith)

pub members-mask : (limit : ℕ) (es : List ℕ) → limit ≤ 32 → Rising 0 limit es → members (mask_of es) ≡ es
members-mask limit es l r = ap members (sym (shifted-mask es)) ∙ members-shifted 32 0 limit es (omega arith) r

pub mask-members : (m : ℕ) → m < 2 ^ 32 → mask_of (members m) ≡ m
mask-members m h = sym (shifted-mask (members m)) ∙ shifted-members 32 0 m h

-- ---- judging entries

module _ (limit : ℕ) (section : Section) (place : ℕ → ℕ) where
  pub below-fine : (i least most : ℕ) (es : List ℕ) → Rising least most es → all_below limit section place i es ≡ Ok tt → Rising least limit es
  unfolding all_below
  below-fine i least most [] r h = tt
  below-fine i least most (e ∷ es) r h =
      let t = picked-fine (ltb e limit) _ _ h in
      (r.0, ltb-true e limit t.0, below-fine (i + 1) (e + 1) most es r.2 t.1)

  pub fine-below : (i least : ℕ) (es : List ℕ) → Rising least limit es → all_below limit section place i es ≡ Ok tt
  unfolding all_below
  fine-below i least [] r = refl
  fine-below i least (e ∷ es) r = rw (lt-ltb e limit r.1) (fine-below (i + 1) (e + 1) es r.2)

pub pins-fine : (least i : ℕ) (ps : List ℕ) → Bytes ps → pins_rise least i ps ≡ Ok tt → Rising least pin_limit ps
unfolding pins_rise
pins-fine least i [] b h = tt
pins-fine least i (p ∷ ps) b h =
    let t = picked-fine (leb least p) _ _ h in
    (leb-true least p t.0, b 0 (omega arith), pins-fine (p + 1) (i + 1) ps (λ n l. b (suc n) (omega arith)) t.1)

pub fine-pins : (least i : ℕ) (ps : List ℕ) → Rising least pin_limit ps → pins_rise least i ps ≡ Ok tt
unfolding pins_rise
fine-pins least i [] r = refl
fine-pins least i (p ∷ ps) r = rw (le-leb least p r.0) (fine-pins (p + 1) (i + 1) ps r.2)
