-- The sections of a sheet one after another: each was refused, or found, as the reader reached it. Assumes nothing.
use mathlib.Core.Path.{◌≡◌, refl, sym, ap, ◌∙◌}
use mathlib.Core.Bool.{Bool, true, false}
use mathlib.Core.List.{List, []}
use Prim.Native.Nat.{ℕ, ◌+◌, ◌≤◌}
use native.Mathlib.Omega.{arith}
use borrow.Author.Tests.{leb-true}
use lib.Dec.{leb}
use lib.ListN.{length}
use Rattle.steps.specs.declared.Refusal.{Refusal}
use Rattle.steps.specs.Step.{got, refused, pick}
use Rattle.sheet.specs.Job.{Head}
use Rattle.steps.specs.Bytes.{byte, word, within, count, word_count, entries}
use Rattle.sheet.specs.JobSheet.{counted_mask, head, wire_limit, seen_limit, rule_limit, pin_limit}
use Rattle.sheet.specs.JobFound.{pins_pass}
use Rattle.steps.proofs.Entries.{apart, next-inv, got-inj, byte_next, entries-length}
use Rattle.steps.proofs.Steps.{value_of, through, through_not}

-- a count that was found is the number there, within its limit, and its place is the next
count-is : (most first n v m : ℕ) (s : List ℕ) (at : ℕ) → within most first n s at ≡ got v m → (v ≤ most) × (m ≡ at) × (n ≡ v)
unfolding within
count-is most first n v m s at h = go (leb n most) _ refl h
  where
    go : (b : Bool) (w : Refusal) → leb n most ≡ b → pick b (got n at) (refused w) ≡ got v m → (v ≤ most) × (m ≡ at) × (n ≡ v)
    go true w p h = let e : n ≡ v = cc in let f : m ≡ at = cc in (omega (arith, leb-true n most p), f, e)
    go false w p h = absurd (apart v m w (sym h))

pub count-bounds : (most : ℕ) (s : List ℕ) (at v m : ℕ) → count most s at ≡ got v m → (v ≤ most) × (m ≡ at + 1)
unfolding count
count-bounds most s at v m h =
    let i = next-inv (byte s at) _ v m h in
    let r = count-is most at i.0 v m s i.1 i.3 in
    (r.0, r.1 ∙ byte_next s at i.0 i.1 i.2)

pub word-count-bounds : (most : ℕ) (s : List ℕ) (at v m : ℕ) → word_count most s at ≡ got v m → v ≤ most
unfolding word_count
word-count-bounds most s at v m h = let i = next-inv (word s at) _ v m h in (count-is most at i.0 v m s i.1 i.3).0

pub word-count-is : (most : ℕ) (s : List ℕ) (at v m : ℕ) → word_count most s at ≡ got v m → word s at ≡ got v m
unfolding word_count
word-count-is most s at v m h =
    let i = next-inv (word s at) _ v m h in
    let r = count-is most at i.0 v m s i.1 i.3 in
    i.2 ∙ (λ k. got (r.2 k) (sym r.1 k))

module _ (s : List ℕ) where
  pub stop₁ : (w : Refusal) → count wire_limit s 0 ≡ refused w → head s 0 ≡ refused w
  unfolding head
  stop₁ w h = rw h

  module _ (n p : ℕ) (h₁ : count wire_limit s 0 ≡ got n p) where
    pub stop₂ : (w : Refusal) → pins_pass n s p ≡ refused w → head s 0 ≡ refused w
    unfolding head pins_pass
    stop₂ w h = rw (h₁, through_not (entries n pin_limit 0 s p) (λ es. n) w h)

    module _ (v q : ℕ) (h₂ : pins_pass n s p ≡ got v q) where
      abbrev pub pins_of : List ℕ
      pins_of = value_of [] (entries n pin_limit 0 s p)

      found₂ : entries n pin_limit 0 s p ≡ got pins_of q
      unfolding pins_pass
      found₂ = through [] (entries n pin_limit 0 s p) n v q h₂

      pub stop₃ : (w : Refusal) → counted_mask seen_limit n s q ≡ refused w → head s 0 ≡ refused w
      unfolding head
      stop₃ w h = rw (h₁, found₂, h)

      module _ (a q₂ : ℕ) (h₃ : counted_mask seen_limit n s q ≡ got a q₂) where
        pub stop₄ : (w : Refusal) → counted_mask seen_limit n s q₂ ≡ refused w → head s 0 ≡ refused w
        unfolding head
        stop₄ w h = rw (h₁, found₂, h₃, h)

        module _ (b q₃ : ℕ) (h₄ : counted_mask seen_limit n s q₂ ≡ got b q₃) where
          pub stop₅ : (w : Refusal) → word_count rule_limit s q₃ ≡ refused w → head s 0 ≡ refused w
          unfolding head
          stop₅ w h = rw (h₁, found₂, h₃, h₄, h)

          pub all : (k q₄ : ℕ) → word_count rule_limit s q₃ ≡ got k q₄ → head s 0 ≡ got (record { wires = n; pins = pins_of; sees_a = a; sees_b = b; count = k }) q₄
          unfolding head
          all k q₄ h = rw (h₁, found₂, h₃, h₄, h)

-- what the sections that were found are like
pub head-facts : (s : List ℕ) (h : Head) (at : ℕ) → head s 0 ≡ got h at → (h.wires ≤ wire_limit) × (h.count ≤ rule_limit) × (length h.pins ≡ h.wires)
unfolding head
head-facts s h at e =
    let i₁ = next-inv (count wire_limit s 0) _ h at e in
    let i₂ = next-inv (entries i₁.0 pin_limit 0 s i₁.1) _ h at i₁.3 in
    let i₃ = next-inv (counted_mask seen_limit i₁.0 s i₂.1) _ h at i₂.3 in
    let i₄ = next-inv (counted_mask seen_limit i₁.0 s i₃.1) _ h at i₃.3 in
    let i₅ = next-inv (word_count rule_limit s i₄.1) _ h at i₄.3 in
    let same = got-inj _ _ _ _ i₅.3 in
    let wires : i₁.0 ≡ h.wires = ap (λ (j : Head). j.wires) same in
    let count : i₅.0 ≡ h.count = ap (λ (j : Head). j.count) same in
    let pins : i₂.0 ≡ h.pins = ap (λ (j : Head). j.pins) same in
    let most : i₁.0 ≤ wire_limit = (count-bounds wire_limit s 0 i₁.0 i₁.1 i₁.2).0 in
    let most-rules : i₅.0 ≤ rule_limit = word-count-bounds rule_limit s i₄.1 i₅.0 i₅.1 i₅.2 in
    (rw (← wires) most, rw (← count) most-rules, ap length (sym pins) ∙ entries-length i₁.0 pin_limit 0 s i₁.1 i₂.0 i₂.1 i₂.2 ∙ wires)
