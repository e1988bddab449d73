-- What a reading step looks at, up to the place that it tells.
--     Goes           a step goes on in its sheet, and finds the same in another that is alike as far as it goes
--     goes_then      two steps one after the other
-- Assumes nothing.
use mathlib.Core.Path.{◌≡◌, sym, ap, ◌∙◌}
use mathlib.Core.Bool.{Bool, true, false}
use mathlib.Core.List.{List, [], ◌∷◌}
use Prim.Native.Nat.{ℕ, zero, suc, ◌+◌, ◌*◌, ◌≤◌}
use native.Mathlib.Omega.{arith}
use lib.Dec.{ltb, leb}
use lib.ListN.{length}
use Rattle.steps.specs.declared.Refusal.{Refusal}
use Rattle.steps.specs.declared.Refusal.TheVariants.{TooMany, NotRising, TooHigh}
use Rattle.steps.specs.Step.{got, refused, Reading, ◌>>=◌, give, pick}
use Rattle.steps.specs.Bytes.{byte, word, within, count, word_count, rising, entry, entries}
use Rattle.steps.proofs.Entries.{apart, next-inv, place_same, byte-is, byte-in, byte_next}
use Rattle.steps.proofs.Near.{Alike, byte-there}

-- where it finds something, it goes on, stays inside the sheet, and finds the same in a sheet that is alike up to the place that it tells
pub record Goes {A : Type 0} (m : Reading A) : Type 0 where
  pub on : (s : List ℕ) (at : ℕ) (a : A) (n : ℕ) → m s at ≡ got a n → at ≤ n
  pub inside : (s : List ℕ) (at : ℕ) (a : A) (n : ℕ) → m s at ≡ got a n → at ≤ length s → n ≤ length s
  pub same : (s t : List ℕ) (at : ℕ) (a : A) (n : ℕ) → Alike n s t → m s at ≡ got a n → m t at ≡ got a n

alike-less : (k n : ℕ) (s t : List ℕ) → k ≤ n → Alike n s t → Alike k s t
alike-less k n s t l r = record {
  long = omega (arith, r.long);
  as_long = omega (arith, r.as_long);
  same = λ i h. r.same i (omega arith);
}

module _ {A B : Type 0} (m : Reading A) (f : A → Reading B) (first : Goes m) (rest : (a : A) → Goes (f a)) where
  pub goes_then : Goes (m >>= f)
  goes_then = record {
    on = λ s at b n h.
        let i = next-inv (m s at) _ b n h in
        omega (arith, first.on s at i.0 i.1 i.2, (rest i.0).on s i.1 b n i.3);
    inside = λ s at b n h l.
        let i = next-inv (m s at) _ b n h in
        (rest i.0).inside s i.1 b n i.3 (first.inside s at i.0 i.1 i.2 l);
    same = λ s t at b n l h.
        let i = next-inv (m s at) _ b n h in
        let there = first.same s t at i.0 i.1 (alike-less i.1 n s t ((rest i.0).on s i.1 b n i.3) l) i.2 in
        rw there ((rest i.0).same s t i.1 b n l i.3);
  }

-- ---- the steps

pub goes-give : {A : Type 0} (a : A) → Goes (give a)
goes-give a = record {
  on = λ s at b n h. let e : at ≡ n = place_same h in omega arith;
  inside = λ s at b n h l. let e : at ≡ n = place_same h in omega arith;
  same = λ s t at b n l h. h;
}

goes-refused : {A : Type 0} (w : Refusal) → Goes {A = A} (λ s at. refused w)
goes-refused {A} w = record {
  on = λ s at b n h. absurd (apart b n w (sym h));
  inside = λ s at b n h l. absurd (apart b n w (sym h));
  same = λ s t at b n l h. h;
}

goes-pick : {A : Type 0} (b : Bool) (m k : Reading A) → Goes m → Goes k → Goes (λ s at. pick b (m s at) (k s at))
goes-pick true m k p q = p
goes-pick false m k p q = q

-- a step that is told its own place
goes_at : {A : Type 0} (m : ℕ → Reading A) → ((at : ℕ) → Goes (m at)) → Goes (λ s at. m at s at)
goes_at m r = record {
  on = λ s at a n h. (r at).on s at a n h;
  inside = λ s at a n h l. (r at).inside s at a n h l;
  same = λ s t at a n l h. (r at).same s t at a n l h;
}

goes-byte : Goes byte
goes-byte = record {
  on = λ s at v n h. omega (arith, byte_next s at v n h);
  inside = λ s at v n h l. omega (arith, byte_next s at v n h, byte-in s at v n h);
  same = λ s t at v n l h.
      let after = byte_next s at v n h in
      byte-there t at (omega (arith, l.as_long)) ∙ (λ i. got (sym (l.same at (omega arith)) i) (sym after i)) ∙ ap (λ (x : ℕ). got x n) (sym (byte-is s at v n h));
}

goes-word : Goes word
unfolding word
goes-word = goes_then byte _ goes-byte (λ low. goes_then byte _ goes-byte (λ high. goes-give (low + 256 * high)))

goes-within : (most first n : ℕ) → Goes (within most first n)
unfolding within
goes-within most first n = goes-pick (leb n most) (give n) (λ s at. refused (TooMany first)) (goes-give n) (goes-refused (TooMany first))

pub goes-count : (most : ℕ) → Goes (count most)
unfolding count
goes-count most = goes_at (λ at. byte >>= within most at) (λ at. goes_then byte (within most at) goes-byte (goes-within most at))

pub goes-word-count : (most : ℕ) → Goes (word_count most)
unfolding word_count
goes-word-count most = goes_at (λ at. word >>= within most at) (λ at. goes_then word (within most at) goes-word (goes-within most at))

goes-rising : (limit least first e : ℕ) → Goes (rising limit least first e)
unfolding rising
goes-rising limit least first e =
    goes-pick (ltb e limit) (λ s at. pick (leb least e) (got e at) (refused (NotRising first))) (λ s at. refused (TooHigh first))
    (goes-pick (leb least e) (give e) (λ s at. refused (NotRising first)) (goes-give e) (goes-refused (NotRising first))) (goes-refused (TooHigh first))

goes-entry : (limit least : ℕ) → Goes (entry limit least)
unfolding entry
goes-entry limit least = goes_at (λ at. byte >>= rising limit least at) (λ at. goes_then byte (rising limit least at) goes-byte (goes-rising limit least at))

pub goes-entries : (n limit least : ℕ) → Goes (entries n limit least)
unfolding entries
goes-entries zero limit least = goes-give []
goes-entries (suc n) limit least =
    goes_then (entry limit least) _ (goes-entry limit least) (λ e. goes_then (entries n limit (e + 1)) _ (goes-entries n limit (e + 1)) (λ es. goes-give (e ∷ es)))
