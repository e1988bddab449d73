-- The ones of a set that was read are as many as its entries. Assumes nothing.
use mathlib.Core.Path.{◌≡◌, refl, sym, ap, ◌∙◌}
use mathlib.Core.List.{List, []}
use Prim.Native.Nat.{ℕ, zero, suc, ◌+◌, ◌-◌, ◌*◌, ◌^◌, ◌≤◌, ◌<◌}
use native.Mathlib.Nat.{zero-mul, one-mul, add-mul, mul_assoc, mul_comm, add_comm, add-zero, pow-suc}
use native.Mathlib.Numerals.{add-one}
use native.Mathlib.Omega.{arith}
use lib.Count.{ones, ones_in, ones_cat}
use lib.Pow.{pow_pos, pow-add, pow-lt}
use Rattle.steps.specs.Step.{got}
use Rattle.steps.specs.Bytes.{entry, entries, count}
use Rattle.sheet.specs.JobSheet.{mask_of, mask, counted_mask}
use Rattle.steps.proofs.Entries.{next-inv, got-inj, entry-bounds}
use Rattle.sheet.proofs.Heads.{count-bounds}

twice : (a e : ℕ) → 2 ^ e + a * 2 ^ (e + 1) ≡ (1 + a * 2) * 2 ^ e
twice a e =
    let p : a * 2 ^ (e + 1) ≡ a * 2 * 2 ^ e = ap (λ (k : ℕ). a * 2 ^ k) (add-one e) ∙ ap (λ (x : ℕ). a * x) (pow-suc 2 e ∙ mul_comm (2 ^ e) 2) ∙ sym (mul_assoc a 2 (2 ^ e)) in
    rw p (ap (λ (x : ℕ). x + a * 2 * 2 ^ e) (sym (one-mul (2 ^ e))) ∙ sym (add-mul 1 (a * 2) (2 ^ e)))

-- entries no lower than `least` make a multiple of its bit
multiple : (n limit least : ℕ) (s : List ℕ) (at : ℕ) (es : List ℕ) (m : ℕ) → entries n limit least s at ≡ got es m → (a : ℕ) × (mask_of es ≡ a * 2 ^ least)
unfolding entries mask_of
multiple zero limit least s at es m h = (0, rw (← got-inj [] es at m h) (sym (zero-mul (2 ^ least))))
multiple (suc n) limit least s at es m h =
    let i = next-inv (entry limit least s at) _ es m h in
    let j = next-inv (entries n limit (i.0 + 1) s i.1) _ es m i.3 in
    let b = entry-bounds limit least s at i.0 i.1 i.2 in
    let r = multiple n limit (i.0 + 1) s i.1 j.0 j.1 j.2 in
    let up : (i.0 - least) + least ≡ i.0 = omega arith in (
      (1 + r.0 * 2) * 2 ^ (i.0 - least),
      ap mask_of (sym (got-inj _ es _ m j.3)) ∙ ap (λ (x : ℕ). 2 ^ i.0 + x) r.1 ∙ twice r.0 i.0
          ∙ ap (λ (x : ℕ). (1 + r.0 * 2) * x) (ap (λ (k : ℕ). 2 ^ k) (sym up) ∙ pow-add 2 (i.0 - least) least)
          ∙ sym (mul_assoc (1 + r.0 * 2) (2 ^ (i.0 - least)) (2 ^ least)),
    )

one-zero : ones 0 ≡ 0
unfolding ones ones_in
one-zero = refl

one-one : ones 1 ≡ 1
unfolding ones ones_in
one-one = refl

ones-shifted : (a k : ℕ) → ones (a * 2 ^ k) ≡ ones a
ones-shifted a k = ap ones (sym (add-zero (a * 2 ^ k))) ∙ ones_cat k a 0 (pow_pos k) ∙ ap (λ (x : ℕ). ones a + x) one-zero ∙ add-zero (ones a)

ones_bit : (e : ℕ) → ones (2 ^ e) ≡ 1
ones_bit e = ap ones (sym (one-mul (2 ^ e))) ∙ ones-shifted 1 e ∙ one-one

ones-with : (a e : ℕ) → ones (2 ^ e + a * 2 ^ (e + 1)) ≡ suc (ones (a * 2 ^ (e + 1)))
ones-with a e =
    let l : e < e + 1 = omega arith in
    ap ones (add_comm (2 ^ e) (a * 2 ^ (e + 1))) ∙ ones_cat (e + 1) a (2 ^ e) (pow-lt l)
    ∙ ap (λ (x : ℕ). ones a + x) (ones_bit e) ∙ add-one (ones a) ∙ ap suc (sym (ones-shifted a (e + 1)))

entries-ones : (n limit least : ℕ) (s : List ℕ) (at : ℕ) (es : List ℕ) (m : ℕ) → entries n limit least s at ≡ got es m → ones (mask_of es) ≡ n
unfolding entries mask_of
entries-ones zero limit least s at es m h = rw (← got-inj [] es at m h) one-zero
entries-ones (suc n) limit least s at es m h =
    let i = next-inv (entry limit least s at) _ es m h in
    let j = next-inv (entries n limit (i.0 + 1) s i.1) _ es m i.3 in
    let r = multiple n limit (i.0 + 1) s i.1 j.0 j.1 j.2 in
    ap (λ (l : List ℕ). ones (mask_of l)) (sym (got-inj _ es _ m j.3)) ∙ ap (λ (x : ℕ). ones (2 ^ i.0 + x)) r.1 ∙ ones-with r.0 i.0
    ∙ ap (λ (x : ℕ). suc (ones x)) (sym r.1) ∙ ap suc (entries-ones n limit (i.0 + 1) s i.1 j.0 j.1 j.2)

-- a set after its count has no more ones than the count's limit
pub counted-ones : (most limit : ℕ) (s : List ℕ) (at v m : ℕ) → counted_mask most limit s at ≡ got v m → ones v ≤ most
unfolding counted_mask mask
counted-ones most limit s at v m h =
    let i = next-inv (count most s at) _ v m h in
    let j = next-inv (entries i.0 limit 0 s i.1) _ v m i.3 in
    let n : ones v ≡ i.0 = ap ones (sym (got-inj _ v _ m j.3)) ∙ entries-ones i.0 limit 0 s i.1 j.0 j.1 j.2 in
    rw n (count-bounds most s at i.0 i.1 i.2).0
