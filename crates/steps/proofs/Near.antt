-- How far a reading step looks: no step looks beyond a given number of bytes, nor tells a place beyond them.
--     Alike          two sheets that have their first k bytes in common
--     Near           a step at a place looks at no more than the next d bytes
--     near-then      two steps one after the other
--     near_byte, near_word, near-count, near-word-count, near-entry, near-entries, near-end      each step
--     end-there, end_read     where the end is found
-- Assumes nothing.
use mathlib.Core.Path.{◌≡◌, refl, sym, ap, ◌∙◌}
use mathlib.Core.Bool.{Bool, true, false}
use mathlib.Core.List.{List, [], ◌∷◌}
use Prim.Native.Nat.{ℕ, zero, suc, ◌+◌, ◌*◌, ◌≤◌, ◌<◌}
use native.Mathlib.Omega.{arith}
use borrow.Author.Tests.{lt-ltb, le-ltb, ltb-false}
use lib.Dec.{ltb, leb}
use lib.ListN.{length, get_or, take}
use lib.Seq.{get_or-take, length-take-le}
use Rattle.steps.specs.declared.Refusal.{Refusal}
use Rattle.steps.specs.declared.Refusal.TheVariants.{Ends, TooMany, NotRising, TooHigh, LeftOver}
use Rattle.steps.specs.Step.{Step, got, refused, next, pick}
use Rattle.steps.specs.Bytes.{byte, word, within, count, word_count, rising, entry, entries, end}
use Rattle.steps.specs.Outcome.{place_of}
use Rattle.steps.proofs.Entries.{apart, next-inv, byte_next}

-- the first k bytes are there in both sheets, and are the same
pub record Alike (k : ℕ) (s t : List ℕ) : Type 0 where
  pub long : k ≤ length s
  pub as_long : k ≤ length t
  pub same : (i : ℕ) → i < k → get_or s i 0 ≡ get_or t i 0

-- m, a step at the place `at`, looks at no more than the next d bytes, and tells no place beyond them
pub record Near {A : Type 0} (d at : ℕ) (m : List ℕ → Step A) : Type 0 where
  pub alike : (k : ℕ) (s t : List ℕ) → Alike k s t → at + d ≤ k → m s ≡ m t
  pub found : (s : List ℕ) (a : A) (n : ℕ) → m s ≡ got a n → n ≤ at + d
  pub faulty : (s : List ℕ) (w : Refusal) → m s ≡ refused w → place_of w ≤ at + d

pub near-more : {A : Type 0} (d e at : ℕ) (m : List ℕ → Step A) → d ≤ e → Near d at m → Near e at m
near-more d e at m l r = record {
  alike = λ k s t p h. r.alike k s t p (omega arith);
  found = λ s a n h. let b = r.found s a n h in omega arith;
  faulty = λ s w h. let b = r.faulty s w h in omega arith;
}

-- a value that takes no bytes
pub near-give : {A : Type 0} (at : ℕ) (a : A) → Near 0 at (λ s. got a at)
near-give at a = record {
  alike = λ k s t p h. refl;
  found = λ s b n h. let e : at ≡ n = cc in omega arith;
  faulty = λ s w h. absurd (apart a at w h);
}

module _ {A B : Type 0} (d e at : ℕ) (m : List ℕ → Step A) (f : A → ℕ → List ℕ → Step B) (first : Near d at m)
    (then : (s : List ℕ) (a : A) (n : ℕ) → m s ≡ got a n → Near e n (f a n)) where
  abbrev both : List ℕ → Step B
  both s = next (m s) (λ a n. f a n s)

  both-alike : (k : ℕ) (s t : List ℕ) → Alike k s t → at + (d + e) ≤ k → both s ≡ both t
  both-alike k s t p h = go (m s) refl
    where
      q : m s ≡ m t
      q = first.alike k s t p (omega arith)

      go : (x : Step A) → m s ≡ x → both s ≡ both t
      go (got a n) r =
          let b = first.found s a n r in
          rw (r, sym q ∙ r) ((then s a n r).alike k s t p (omega arith))
      go (refused w) r = rw (r, sym q ∙ r)

  both_found : (s : List ℕ) (b : B) (n : ℕ) → both s ≡ got b n → n ≤ at + (d + e)
  both_found s b n h = go (m s) refl
    where
      go : (x : Step A) → m s ≡ x → n ≤ at + (d + e)
      go (got a l) r =
          let z : f a l s ≡ got b n = rw r at h in
          omega (arith, first.found s a l r, (then s a l r).found s b n z)
      go (refused w) r = let z : refused w ≡ got b n = rw r at h in absurd (apart b n w (sym z))

  both-faulty : (s : List ℕ) (w : Refusal) → both s ≡ refused w → place_of w ≤ at + (d + e)
  both-faulty s w h = go (m s) refl
    where
      go : (x : Step A) → m s ≡ x → place_of w ≤ at + (d + e)
      go (got a l) r =
          let z : f a l s ≡ refused w = rw r at h in
          omega (arith, first.found s a l r, (then s a l r).faulty s w z)
      go (refused v) r =
          let z : refused v ≡ refused w = rw r at h in
          let y : v ≡ w = cc in
          omega (arith, first.faulty s v r, ap place_of y)

  pub near-then : Near (d + e) at both
  near-then = record { alike = both-alike; found = both_found; faulty = both-faulty }

-- ---- the steps

pub near-pick : {A : Type 0} (b : Bool) (d at : ℕ) (m n : List ℕ → Step A) → Near d at m → Near d at n → Near d at (λ s. pick b (m s) (n s))
near-pick true d at m n p q = p
near-pick false d at m n p q = q

pub near-refused : {A : Type 0} (at : ℕ) (w : Refusal) → place_of w ≤ at → Near {A = A} 0 at (λ s. refused w)
near-refused {A} at w l = record {
  alike = λ k s t p h. refl;
  found = λ s b n h. absurd (apart b n w (sym h));
  faulty = λ s v h. let e : w ≡ v = cc in omega (arith, ap place_of e);
}

pub byte-there : (s : List ℕ) (at : ℕ) → at < length s → byte s at ≡ got (get_or s at 0) (at + 1)
unfolding byte
byte-there s at l = rw (lt-ltb at (length s) l)

byte-alike : (k : ℕ) (s t : List ℕ) (at : ℕ) → Alike k s t → at + 1 ≤ k → byte s at ≡ byte t at
byte-alike k s t at p h =
    let ls : at < length s = omega (arith, p.long) in
    let lt : at < length t = omega (arith, p.as_long) in
    byte-there s at ls ∙ ap (λ (x : ℕ). got x (at + 1)) (p.same at (omega arith)) ∙ sym (byte-there t at lt)

pub near_byte : (at : ℕ) → Near 1 at (λ s. byte s at)
unfolding byte
near_byte at = record {
  alike = λ k s t p h. byte-alike k s t at p h;
  found = λ s a n h. go-found (ltb at (length s)) _ _ n a h;
  faulty = λ s w h. go-faulty s (ltb at (length s)) _ w refl h;
}
  where
    go-found : (b : Bool) (x : ℕ) (v : Refusal) (n a : ℕ) → pick b (got x (at + 1)) (refused v) ≡ got a n → n ≤ at + 1
    go-found true x v n a h = let e : at + 1 ≡ n = cc in omega arith
    go-found false x v n a h = absurd (apart a n v (sym h))

    go-faulty : (s : List ℕ) (b : Bool) (x : ℕ) (w : Refusal) → ltb at (length s) ≡ b → pick b (got x (at + 1)) (refused (Ends (length s))) ≡ refused w → place_of w ≤ at + 1
    go-faulty s true x w p h = absurd (apart x (at + 1) w h)
    go-faulty s false x w p h =
        let e : Ends (length s) ≡ w = cc in
        omega (arith, ap place_of e, ltb-false at (length s) p)

pub near_word : (at : ℕ) → Near 2 at (λ s. word s at)
unfolding word
near_word at =
    near-then 1 1 at (λ s. byte s at) (λ low m s. next (byte s m) (λ high n. got (low + 256 * high) n)) (near_byte at)
    (λ s low m h.
    near-then 1 0 m (λ s. byte s m) (λ high n s. got (low + 256 * high) n) (near_byte m) (λ s high n g. near-give n (low + 256 * high)))

pub word_next : (s : List ℕ) (at v m : ℕ) → word s at ≡ got v m → m ≡ at + 2
unfolding word
word_next s at v m h =
    let i = next-inv (byte s at) _ v m h in
    let j = next-inv (byte s i.1) _ v m i.3 in
    let e : j.1 ≡ m = cc j.3 in
    omega (arith, byte_next s at i.0 i.1 i.2, byte_next s i.1 j.0 j.1 j.2)

pub near_within : (most first n at : ℕ) → first ≤ at → Near 0 at (λ s. within most first n s at)
unfolding within
near_within most first n at l =
    near-pick (leb n most) 0 at (λ s. got n at) (λ s. refused (TooMany first)) (near-give at n) (near-refused at (TooMany first) l)

pub near-count : (most at : ℕ) → Near 1 at (λ s. count most s at)
unfolding count
near-count most at =
    near-then 1 0 at (λ s. byte s at) (λ n m s. within most at n s m) (near_byte at)
    (λ s n m h. near_within most at n m (omega (arith, byte_next s at n m h)))

pub near-word-count : (most at : ℕ) → Near 2 at (λ s. word_count most s at)
unfolding word_count
near-word-count most at =
    near-then 2 0 at (λ s. word s at) (λ n m s. within most at n s m) (near_word at)
    (λ s n m h. near_within most at n m (omega (arith, word_next s at n m h)))

pub near-rising : (limit least first e at : ℕ) → first ≤ at → Near 0 at (λ s. rising limit least first e s at)
unfolding rising
near-rising limit least first e at l =
    near-pick (ltb e limit) 0 at (λ s. pick (leb least e) (got e at) (refused (NotRising first))) (λ s. refused (TooHigh first))
    (near-pick (leb least e) 0 at (λ s. got e at) (λ s. refused (NotRising first)) (near-give at e) (near-refused at (NotRising first) l))
    (near-refused at (TooHigh first) l)

pub near-entry : (limit least at : ℕ) → Near 1 at (λ s. entry limit least s at)
unfolding entry
near-entry limit least at =
    near-then 1 0 at (λ s. byte s at) (λ e m s. rising limit least at e s m) (near_byte at)
    (λ s e m h. near-rising limit least at e m (omega (arith, byte_next s at e m h)))

pub near-entries : (n limit least at : ℕ) → Near n at (λ s. entries n limit least s at)
unfolding entries
near-entries zero limit least at = near-give at []
near-entries (suc n) limit least at =
    near-more (1 + (n + 0)) (suc n) at (λ s. entries (suc n) limit least s at) (omega arith)
    (near-then 1 (n + 0) at (λ s. entry limit least s at) (λ e m s. next (entries n limit (e + 1) s m) (λ es q. got (e ∷ es) q)) (near-entry limit least at)
    (λ s e m h.
    near-then n 0 m (λ s. entries n limit (e + 1) s m) (λ es q s. got (e ∷ es) q) (near-entries n limit (e + 1) m) (λ s es q g. near-give q (e ∷ es))))

pub near-end : (at : ℕ) → Near 1 at (λ s. end s at)
unfolding end
near-end at = record {
  alike = λ k s t p h. rw (lt-ltb at (length s) (omega (arith, p.long)), lt-ltb at (length t) (omega (arith, p.as_long)));
  found = λ s a n h. go-found (ltb at (length s)) a n h;
  faulty = λ s w h. go-faulty (ltb at (length s)) w h;
}
  where
    go-found : (b : Bool) (a n : ℕ) → pick {X = Step ℕ} b (refused (LeftOver at)) (got 0 at) ≡ got a n → n ≤ at + 1
    go-found true a n h = absurd (apart a n (LeftOver at) (sym h))
    go-found false a n h = let e : at ≡ n = cc in omega arith

    go-faulty : (b : Bool) (w : Refusal) → pick {X = Step ℕ} b (refused (LeftOver at)) (got 0 at) ≡ refused w → place_of w ≤ at + 1
    go-faulty true w h = let e : LeftOver at ≡ w = cc in omega (arith, ap place_of e)
    go-faulty false w h = absurd (apart 0 at w h)

-- at the end nothing is left
pub end-there : (s : List ℕ) (at v n : ℕ) → end s at ≡ got v n → length s ≤ at
unfolding end
end-there s at v n h = go (ltb at (length s)) refl h
  where
    go : (b : Bool) → ltb at (length s) ≡ b → pick {X = Step ℕ} b (refused (LeftOver at)) (got 0 at) ≡ got v n → length s ≤ at
    go true p h = absurd (apart v n (LeftOver at) (sym h))
    go false p h = ltb-false at (length s) p

pub end_read : (s : List ℕ) (at : ℕ) → length s ≡ at → end s at ≡ got 0 at
unfolding end
end_read s at e = rw (le-ltb at (length s) (omega arith))

-- a sheet and its first k bytes
pub cut-alike : (k : ℕ) (s : List ℕ) → k ≤ length s → Alike k s (take k s)
cut-alike k s l = record {
  long = l;
  as_long = omega (arith, length-take-le k s l);
  same = λ i h. sym (get_or-take k s i 0 h);
}
