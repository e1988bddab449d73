-- What was read stands in the sheet, as it is written.
--     moved          a fact of what was read, and of the place after it
--     set_found, rules-found, head-found      each section
--     job-found      with the job of an accepted sheet nothing is amiss, and its sheet is the same
-- Assumes nothing.
use mathlib.Core.Path.{◌≡◌, refl, sym, ap, ◌∙◌, subst₂}
use mathlib.Core.List.{List, [], ◌∷◌, ◌++◌, append-nil, append_assoc}
use Prim.Native.Nat.{ℕ, zero, suc, ◌+◌, ◌/◌, ◌%◌, ◌≤◌, ◌<◌}
use native.Mathlib.Numerals.{add-one}
use native.Mathlib.Nat.{lt_of_lt_of_le}
use native.Mathlib.Omega.{arith}
use borrow.Author.Tests.{leb-true}
use lib.Dec.{leb}
use lib.ListN.{length, get_or, drop, drop_of_length-le}
use lib.Pow.{pow_mono}
use lib.Seq.{drop-cons}
use Rattle.steps.specs.Step.{got}
use Rattle.steps.specs.Bytes.{byte, word, within, count, word_count, entry, entries, end}
use Rattle.steps.proofs.Entries.{next-inv, got-inj, byte-is, byte-in, byte_next, entry-bounds, entry-byte, entries-length}
use Rattle.steps.proofs.Near.{end-there}
use Rattle.sheet.specs.declared.Form.TheVariants.{One}
use Rattle.sheet.specs.Job.{Job, Head, accepted}
use Rattle.sheet.specs.JobSheet.{wire_limit, seen_limit, pin_limit, rule_limit, terms_of, mask_of, mask, counted_mask, rules, excuses, head, job, read_job}
use Rattle.sheet.proofs.Jobs.{rules-length}
use Rattle.sheet.proofs.Laws.{counted-lt, accepted-inv}
use Rattle.answer.specs.Written.{two, Bytes}
use Rattle.answer.proofs.There.{kept, word-there}
use Rattle.writer.specs.JobWritten.{members, counted, rules_bytes, job_sheet}
use Rattle.writer.proofs.Masks.{Rising, members-mask}
use Rattle.writer.proofs.Sound.{IsSet, Rules, Sound}

-- a fact of what was read, and of the place after it
moved : {A : Type 0} (P : A → ℕ → Type 0) (a b : A) (n m : ℕ) → got a n ≡ got b m → P a n → P b m
moved P a b n m h r = let place : n ≡ m = cc in subst₂ P (got-inj a b n m h) place r

module _ (s : List ℕ) where
  drop-at-place : (at v m : ℕ) → at < length s → v ≡ get_or s at 0 → m ≡ at + 1 → drop at s ≡ v ∷ drop m s
  drop-at-place at v m l e n = drop-cons s at 0 l ∙ (λ i. sym e i ∷ drop (sym (n ∙ add-one at) i) s)

  count-found : (most at v m : ℕ) → count most s at ≡ got v m → (v ≤ most) × (drop at s ≡ v ∷ drop m s)
  unfolding count within
  count-found most at v m h =
      let i = next-inv (byte s at) _ v m h in
      let k = kept (leb i.0 most) _ _ v m _ i.3 in
      let found : byte s at ≡ got v m = i.2 ∙ (λ x. got (k.1 x) (k.2 x)) in
      (omega (arith, leb-true i.0 most k.0, k.1), drop-at-place at v m (byte-in s at v m found) (byte-is s at v m found) (byte_next s at v m found))

  word-found : (most at v m : ℕ) → Bytes s → word_count most s at ≡ got v m → (v ≤ most) × (drop at s ≡ two v ++ drop m s)
  unfolding word_count within
  word-found most at v m b h =
      let i = next-inv (word s at) _ v m h in
      let k = kept (leb i.0 most) _ _ v m _ i.3 in
      let w = word-there s at v m (i.2 ∙ (λ x. got (k.1 x) (k.2 x))) in
      let low : v % 256 ≡ get_or s at 0 = omega (arith, w.value, b at (omega (arith, w.room))) in
      let high : v / 256 ≡ get_or s (at + 1) 0 = omega (arith, w.value, b at (omega (arith, w.room))) in
      let first = drop-at-place at (v % 256) (at + 1) (omega (arith, w.room)) low refl in
      let second = drop-at-place (at + 1) (v / 256) m (omega (arith, w.room)) high (omega (arith, w.after)) in
      (omega (arith, leb-true i.0 most k.0, k.1), first ∙ ap (λ (l : List ℕ). v % 256 ∷ l) second)

  entries-found : (n limit least at : ℕ) (es : List ℕ) (m : ℕ) → entries n limit least s at ≡ got es m → Rising least limit es × (drop at s ≡ es ++ drop m s)
  unfolding entries
  entries-found zero limit least at es m h =
      moved (λ es m. Rising least limit es × (drop at s ≡ es ++ drop m s)) [] es at m h (tt, refl)
  entries-found (suc n) limit least at es m h =
      let i = next-inv (entry limit least s at) _ es m h in
      let j = next-inv (entries n limit (i.0 + 1) s i.1) _ es m i.3 in
      let b = entry-bounds limit least s at i.0 i.1 i.2 in
      let at_place = entry-byte limit least s at i.0 i.1 i.2 in
      let ih = entries-found n limit (i.0 + 1) i.1 j.0 j.1 j.2 in
      moved (λ es m. Rising least limit es × (drop at s ≡ es ++ drop m s)) (i.0 ∷ j.0) es j.1 m j.3
      ((b.1, b.0, ih.0), drop-at-place at i.0 i.1 at_place.0 at_place.1 at_place.2 ∙ ap (λ (l : List ℕ). i.0 ∷ l) ih.1)

  set_found : (most limit at v m : ℕ) → limit ≤ 32 → counted_mask most limit s at ≡ got v m → IsSet most limit v × (drop at s ≡ counted (members v) ++ drop m s)
  unfolding counted_mask mask
  set_found most limit at v m l h =
      let i = next-inv (count most s at) _ v m h in
      let j = next-inv (entries i.0 limit 0 s i.1) _ v m i.3 in
      let c = count-found most at i.0 i.1 i.2 in
      let f = entries-found i.0 limit 0 i.1 j.0 j.1 j.2 in
      let value : mask_of j.0 ≡ v = got-inj _ v _ m j.3 in
      let same : members (mask_of j.0) ≡ j.0 = members-mask limit j.0 l f.0 in
      let long : length j.0 ≡ i.0 = entries-length i.0 limit 0 s i.1 j.0 j.1 j.2 in
      let set : IsSet most limit (mask_of j.0) = record {
        small = rw value (lt_of_lt_of_le (counted-lt most limit s at v m h) (pow_mono l));
        few = rw (same, long) c.0;
        rise = rw same f.0;
      } in
      moved (λ v m. IsSet most limit v × (drop at s ≡ counted (members v) ++ drop m s)) (mask_of j.0) v j.1 m j.3
      (set, rw (same, long) (c.1 ∙ ap (λ (l : List ℕ). i.0 ∷ l) f.1))

  rules-found : (n terms at : ℕ) (rs : List ℕ) (m : ℕ) → terms ≤ 32 → rules n terms s at ≡ got rs m → Rules terms rs × (drop at s ≡ rules_bytes rs ++ drop m s)
  unfolding rules rules_bytes
  rules-found zero terms at rs m l h =
      moved (λ rs m. Rules terms rs × (drop at s ≡ rules_bytes rs ++ drop m s)) [] rs at m h (tt, refl)
  rules-found (suc n) terms at rs m l h =
      let i = next-inv (counted_mask terms terms s at) _ rs m h in
      let j = next-inv (rules n terms s i.1) _ rs m i.3 in
      let r = set_found terms terms at i.0 i.1 l i.2 in
      let ih = rules-found n terms i.1 j.0 j.1 l j.2 in
      let c = counted (members i.0) in
      moved (λ rs m. Rules terms rs × (drop at s ≡ rules_bytes rs ++ drop m s)) (i.0 ∷ j.0) rs j.1 m j.3
      ((r.0, ih.0), r.1 ∙ ap (λ (l : List ℕ). c ++ l) ih.1 ∙ sym (append_assoc c (rules_bytes j.0) (drop j.1 s)))

  record Headed (h : Head) (at : ℕ) : Type 0 where
    wires : length h.pins ≡ h.wires
    few : h.wires ≤ wire_limit
    pins : Rising 0 pin_limit h.pins
    sees_a : IsSet seen_limit h.wires h.sees_a
    sees_b : IsSet seen_limit h.wires h.sees_b
    most : h.count ≤ rule_limit
    stands : s ≡ counted h.pins ++ (counted (members h.sees_a) ++ (counted (members h.sees_b) ++ (two h.count ++ drop at s)))

  head-found : (h : Head) (at : ℕ) → Bytes s → head s 0 ≡ got h at → Headed h at
  unfolding head
  head-found h at b e =
      let i₁ = next-inv (count wire_limit s 0) _ h at e in
      let i₂ = next-inv (entries i₁.0 pin_limit 0 s i₁.1) _ h at i₁.3 in
      let i₃ = next-inv (counted_mask seen_limit i₁.0 s i₂.1) _ h at i₂.3 in
      let i₄ = next-inv (counted_mask seen_limit i₁.0 s i₃.1) _ h at i₃.3 in
      let i₅ = next-inv (word_count rule_limit s i₄.1) _ h at i₄.3 in
      let n = count-found wire_limit 0 i₁.0 i₁.1 i₁.2 in
      let p = entries-found i₁.0 pin_limit 0 i₁.1 i₂.0 i₂.1 i₂.2 in
      let x = set_found seen_limit i₁.0 i₂.1 i₃.0 i₃.1 (omega (arith, n.0)) i₃.2 in
      let y = set_found seen_limit i₁.0 i₃.1 i₄.0 i₄.1 (omega (arith, n.0)) i₄.2 in
      let k = word-found rule_limit i₄.1 i₅.0 i₅.1 b i₅.2 in
      let long : length i₂.0 ≡ i₁.0 = entries-length i₁.0 pin_limit 0 s i₁.1 i₂.0 i₂.1 i₂.2 in
      let from-b = y.1 ∙ ap (λ (l : List ℕ). counted (members i₄.0) ++ l) k.1 in
      let from-a = x.1 ∙ ap (λ (l : List ℕ). counted (members i₃.0) ++ l) from-b in
      let from-pins = p.1 ∙ ap (λ (l : List ℕ). i₂.0 ++ l) from-a in
      moved Headed _ h _ at i₅.3 (record {
        wires = long;
        few = n.0;
        pins = p.0;
        sees_a = x.0;
        sees_b = y.0;
        most = k.0;
        stands = n.1 ∙ (λ z. sym long z ∷ from-pins z);
      })

regroup : (a b c d e : List ℕ) → a ++ b ++ c ++ d ++ e ≡ a ++ (b ++ (c ++ (d ++ e)))
regroup a b c d e = simp append_assoc

pub job-found : (s : List ℕ) (j : Job) → Bytes s → read_job One s ≡ accepted j → Sound j × (job_sheet j ≡ s)
unfolding excuses read_job job job_sheet
job-found s j b ok =
    let a = accepted-inv (job One s 0) j ok in
    let i = next-inv (head s 0) _ j a.0 a.1 in
    let r = next-inv (rules i.0.count (terms_of i.0.wires) s i.1) _ j a.0 i.3 in
    let e = next-inv (end s r.1) _ j a.0 r.3 in
    let h = head-found s i.0 i.1 b i.2 in
    let few : i.0.wires ≤ wire_limit = h.few in
    let rs = rules-found s i.0.count (terms_of i.0.wires) i.1 r.0 r.1 (omega arith) r.2 in
    let long : length r.0 ≡ i.0.count = rules-length i.0.count (terms_of i.0.wires) s i.1 r.0 r.1 r.2 in
    let none : drop r.1 s ≡ [] = drop_of_length-le s (end-there s r.1 e.0 e.1 e.2) in
    let left : drop i.1 s ≡ rules_bytes r.0 = rs.1 ∙ ap (λ (l : List ℕ). rules_bytes r.0 ++ l) none ∙ append-nil (rules_bytes r.0) in
    let pins = counted i.0.pins in
    let x = counted (members i.0.sees_a) in
    let y = counted (members i.0.sees_b) in
    let wires = h.wires in
    moved (λ j m. Sound j × (job_sheet j ≡ s)) _ j _ a.0 e.3 (
      record {
        few = rw wires few;
        pins = h.pins;
        sees_a = rw wires h.sees_a;
        sees_b = rw wires h.sees_b;
        most = rw long h.most;
        rules = rw wires rs.0;
        excuses = refl;
      },
      regroup pins x y (two (length r.0)) (rules_bytes r.0)
          ∙ (λ z. pins ++ (x ++ (y ++ (two (long z) ++ sym left z))))
          ∙ sym h.stands,
    )
