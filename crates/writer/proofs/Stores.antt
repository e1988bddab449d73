-- The bytes of a sheet as they are written, one run of stores after another.
--     set-..                       the loop that writes a set
--     rules-next, rules-none       the loop over the rules, of which rule i is next
--     rules-short, rules-sum, sheet-long, described-long   how long the rules and the whole sheet are
--     pins-room, .., rules-room, sheet-written     the sections, one after another
-- Assumes nothing.
use mathlib.Core.Path.{◌≡◌, refl, sym, ap, subst, ◌∙◌}
use mathlib.Core.List.{List, [], ◌∷◌, ◌++◌}
use Prim.Native.Nat.{ℕ, ◌+◌, ◌*◌, ◌^◌, ◌≤◌, ◌<◌}
use native.Mathlib.Nat.{zero-add}
use native.Mathlib.Numerals.{add-one}
use native.Mathlib.Omega.{arith}
use lib.Count.{count_trailing_zeros}
use lib.ListN.{length, get_or, drop, length-append, drop_of_length-le}
use lib.Seq.{drop-cons}
use Rattle.wires.proofs.Lowest.{rest}
use Rattle.std.specs.List.{sum_by}
use Rattle.std.proofs.lemmas.List.Sums.{sum_by-cons}
use Rattle.sheet.specs.Job.{Job}
use Rattle.answer.specs.Written.{two}
use Rattle.answer.specs.declared.page.Page.{Page}
use Rattle.answer.specs.Page.{Room, Wrote}
use Rattle.answer.proofs.Pieces.{both, first_room, next_room}
use Rattle.writer.specs.JobWritten.{members, counted, rules_bytes, job_sheet, described}
use Rattle.writer.proofs.Sets.{members-none, members-lowest, members-few}

-- ---- a set

pub set-lowest : (left : ℕ) → 0 < left → left < 2 ^ 32 → members left ≡ count_trailing_zeros 32 left ∷ members (rest left)
set-lowest left some small = members-lowest 32 0 left some small ∙ ap (λ (e : ℕ). e ∷ members (rest left)) (zero-add (count_trailing_zeros 32 left))

pub set-none : (left : ℕ) → left ≡ 0 → members left ≡ []
set-none left none = ap members none ∙ members-none 32 0

-- ---- the rules

module _ (rules : List ℕ) (i : ℕ) where
  pub rules-next : i < length rules → rules_bytes (drop i rules) ≡ counted (members (get_or rules i 0)) ++ rules_bytes (drop (i + 1) rules)
  unfolding rules_bytes
  rules-next l = rw (drop-cons rules i 0 l, add-one i)

  pub rules-none : length rules ≤ i → rules_bytes (drop i rules) ≡ []
  unfolding rules_bytes
  rules-none l = rw (drop_of_length-le rules l)

pub rules-short : (rules : List ℕ) → length (rules_bytes rules) ≤ 33 * length rules
unfolding rules_bytes
rules-short [] = omega arith
rules-short (r ∷ rs) = omega (arith, rules-short rs, members-few 32 0 r, length-append (counted (members r)) (rules_bytes rs))

pub rules-sum : (rules : List ℕ) → sum_by (λ r. 1 + length (members r)) rules ≡ length (rules_bytes rules)
unfolding rules_bytes
rules-sum [] = refl
rules-sum (r ∷ rs) = omega (arith, sum_by-cons (λ r. 1 + length (members r)) r rs, rules-sum rs, length-append (counted (members r)) (rules_bytes rs))

-- ---- the whole sheet

pub sheet-long : (j : Job) → length (job_sheet j) ≡ 5 + length j.pins + length (members j.sees_a) + length (members j.sees_b) + length (rules_bytes j.rules)
unfolding job_sheet
sheet-long j =
    let A = counted (members j.sees_a) in
    let B = counted (members j.sees_b) in
    let P = counted j.pins in
    let K = two (length j.rules) in
    let l₁ = length-append P A in
    let l₂ = length-append (P ++ A) B in
    let l₃ = length-append (P ++ A ++ B) K in
    let l₄ = length-append (P ++ A ++ B ++ K) (rules_bytes j.rules) in
    omega (arith, l₁, l₂, l₃, l₄)

-- and of a description, which a clause sees as the job
pub described-long : (pins : List ℕ) (a b : ℕ) (rules : List ℕ) (j : Job) → described pins a b rules ≡ j
    → length (job_sheet j) ≡ 5 + length pins + length (members a) + length (members b) + length (rules_bytes rules)
described-long pins a b rules j e = ap (λ x. length (job_sheet x)) (sym e) ∙ sheet-long (described pins a b rules)

-- where the sheet fits on a page there is room for each section once those before it are written
-- (a clause sees the description j as the job v)
module _ (p : Page) (j : Job) {v : Job} (is : j ≡ v) (fits : Room p (job_sheet v)) where
  abbrev pins : List ℕ
  pins = counted j.pins

  abbrev a : List ℕ
  a = counted (members j.sees_a)

  abbrev b : List ℕ
  b = counted (members j.sees_b)

  abbrev count : List ℕ
  count = two (length j.rules)

  fits₅ : Room p (pins ++ a ++ b ++ count ++ rules_bytes j.rules)
  unfolding job_sheet
  fits₅ = subst (λ (x : Job). Room p (job_sheet x)) (sym is) fits

  fits₄ : Room p (pins ++ a ++ b ++ count)
  fits₄ = first_room p (pins ++ a ++ b ++ count) (rules_bytes j.rules) fits₅

  fits₃ : Room p (pins ++ a ++ b)
  fits₃ = first_room p (pins ++ a ++ b) count fits₄

  fits₂ : Room p (pins ++ a)
  fits₂ = first_room p (pins ++ a) b fits₃

  pub pins-room : Room p pins
  pins-room = first_room p pins a fits₂

  module _ {p₁ : Page} (x₁ : Wrote p pins p₁) where
    pub a-room : Room p₁ a
    a-room = next_room x₁ a fits₂

    module _ {p₂ : Page} (x₂ : Wrote p₁ a p₂) where
      pub b-room : Room p₂ b
      b-room = next_room (both x₁ x₂) b fits₃

      module _ {p₃ : Page} (x₃ : Wrote p₂ b p₃) where
        pub count-room : Room p₃ count
        count-room = next_room (both (both x₁ x₂) x₃) count fits₄

        module _ {p₄ : Page} (x₄ : Wrote p₃ count p₄) where
          pub rules-room : Room p₄ (rules_bytes j.rules)
          rules-room = next_room (both (both (both x₁ x₂) x₃) x₄) (rules_bytes j.rules) fits₅

          pub sheet-written : {p₅ : Page} → Wrote p₄ (rules_bytes j.rules) p₅ → Wrote p (job_sheet v) p₅
          unfolding job_sheet
          sheet-written {p₅} x₅ = subst (λ (x : Job). Wrote p (job_sheet x) p₅) is (both (both (both (both x₁ x₂) x₃) x₄) x₅)
