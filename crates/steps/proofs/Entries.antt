-- What a byte and an entry that were found are, and a turn of a loop over entries. Assumes nothing.
use mathlib.Core.Path.{◌≡◌, refl, sym, ap, ◌∙◌}
use mathlib.Core.Bool.{Bool, true, false}
use mathlib.Core.List.{List, [], ◌∷◌}
use mathlib.Core.Logic.{◌⊎◌, inl, inr}
use Prim.Native.Nat.{ℕ, zero, suc, ◌+◌, ◌≤◌, ◌<◌}
use native.Mathlib.Nat.{not-suc-le-zero}
use native.Mathlib.Omega.{arith}
use borrow.Author.Tests.{ltb-true, leb-true}
use lib.Dec.{ltb, leb}
use lib.ListN.{length, get_or}
use Rattle.steps.specs.declared.Refusal.{Refusal}
use Rattle.steps.specs.Step.{Step, got, refused, next, pick}
use Rattle.steps.specs.Bytes.{byte, within, count, rising, entry, entries}

pub apart : {A : Type 0} (a : A) (n : ℕ) (w : Refusal) → got a n ≡ refused w → ⊥
apart a n w p = let z : ◌≡◌ {A = ℕ} 0 1 = cc in omega arith

pub assoc : {A B C : Type 0} (t : Step A) (f : A → ℕ → Step B) (g : B → ℕ → Step C) → next (next t f) g ≡ next t (λ a n. next (f a n) g)
assoc (got a n) f g = refl
assoc (refused w) f g = refl

-- what a step that found something began with
pub next-inv : {A B : Type 0} (t : Step A) (k : A → ℕ → Step B) (v : B) (n : ℕ) → next t k ≡ got v n → (a : A) × (m : ℕ) × (t ≡ got a m) × (k a m ≡ got v n)
next-inv (got a m) k v n h = (a, m, refl, h)
next-inv (refused w) k v n h = absurd (apart v n w (sym h))

-- and what one that was refused did
pub next-not : {A B : Type 0} (t : Step A) (k : A → ℕ → Step B) (w : Refusal) → next t k ≡ refused w → (t ≡ refused w) ⊎ ((a : A) × (m : ℕ) × (t ≡ got a m) × (k a m ≡ refused w))
next-not (got a m) k w h = inr (a, m, refl, h)
next-not (refused v) k w h = let e : v ≡ w = cc in inl (ap refused e)

pub got-inj : {A : Type 0} (a b : A) (n m : ℕ) → got a n ≡ got b m → a ≡ b
got-inj a b n m h = cc

pub place_same : {A : Type 0} {a b : A} {n m : ℕ} → got a n ≡ got b m → n ≡ m
place_same h = cc

picked : (b : Bool) (x y v n : ℕ) (w : Refusal) → pick b (got x y) (refused w) ≡ got v n → v ≡ x
picked true x y v n w h = cc
picked false x y v n w h = absurd (apart v n w (sym h))

-- a byte that was found is the sheet's
pub byte-is : (s : List ℕ) (at v n : ℕ) → byte s at ≡ got v n → v ≡ get_or s at 0
unfolding byte
byte-is s at v n h = picked (ltb at (length s)) _ _ v n _ h

rising-bounds : (limit least first e a v n : ℕ) (s : List ℕ) → rising limit least first e s a ≡ got v n → (v < limit) × (least ≤ v)
unfolding rising
rising-bounds limit least first e a v n s h = go (ltb e limit) (leb least e) _ _ refl refl h
  where
    go : (b₁ b₂ : Bool) (w₁ w₂ : Refusal) → ltb e limit ≡ b₁ → leb least e ≡ b₂ → pick b₁ (pick b₂ (got e a) (refused w₁)) (refused w₂) ≡ got v n
        → (v < limit) × (least ≤ v)
    go true true w₁ w₂ p q h = let same : e ≡ v = cc in omega (arith, ltb-true e limit p, leb-true least e q)
    go true false w₁ w₂ p q h = absurd (apart v n w₁ (sym h))
    go false b₂ w₁ w₂ p q h = absurd (apart v n w₂ (sym h))

pub byte_next : (s : List ℕ) (at v m : ℕ) → byte s at ≡ got v m → m ≡ at + 1
unfolding byte
byte_next s at v m h = go (ltb at (length s)) _ _ h
  where
    go : (b : Bool) (x : ℕ) (w : Refusal) → pick b (got x (at + 1)) (refused w) ≡ got v m → m ≡ at + 1
    go true x w h = cc
    go false x w h = absurd (apart v m w (sym h))

pub byte-in : (s : List ℕ) (at v m : ℕ) → byte s at ≡ got v m → at < length s
unfolding byte
byte-in s at v m h = go (ltb at (length s)) _ _ refl h
  where
    go : (b : Bool) (x : ℕ) (w : Refusal) → ltb at (length s) ≡ b → pick b (got x (at + 1)) (refused w) ≡ got v m → at < length s
    go true x w p h = ltb-true at (length s) p
    go false x w p h = absurd (apart v m w (sym h))

rising-is : (limit least first e a v n : ℕ) (s : List ℕ) → rising limit least first e s a ≡ got v n → (v ≡ e) × (n ≡ a)
unfolding rising
rising-is limit least first e a v n s h = go (ltb e limit) (leb least e) _ _ h
  where
    go : (b₁ b₂ : Bool) (w₁ w₂ : Refusal) → pick b₁ (pick b₂ (got e a) (refused w₁)) (refused w₂) ≡ got v n → (v ≡ e) × (n ≡ a)
    go true true w₁ w₂ h = (cc, cc)
    go true false w₁ w₂ h = absurd (apart v n w₁ (sym h))
    go false b₂ w₁ w₂ h = absurd (apart v n w₂ (sym h))

-- an entry that was found is below the limit, and no lower than asked
pub entry-bounds : (limit least : ℕ) (s : List ℕ) (at v n : ℕ) → entry limit least s at ≡ got v n → (v < limit) × (least ≤ v)
unfolding entry
entry-bounds limit least s at v n h = go (byte s at) h
  where
    go : (t : Step ℕ) → next t (λ e a. rising limit least at e s a) ≡ got v n → (v < limit) × (least ≤ v)
    go (got e a) h = rising-bounds limit least at e a v n s h
    go (refused w) h = absurd (apart v n w (sym h))

-- and is the byte at its place
pub entry-byte : (limit least : ℕ) (s : List ℕ) (at v n : ℕ) → entry limit least s at ≡ got v n → (at < length s) × (v ≡ get_or s at 0) × (n ≡ at + 1)
unfolding entry
entry-byte limit least s at v n h =
    let i = next-inv (byte s at) _ v n h in
    let r = rising-is limit least at i.0 i.1 v n s i.3 in
    (byte-in s at i.0 i.1 i.2, r.0 ∙ byte-is s at i.0 i.1 i.2, r.1 ∙ byte_next s at i.0 i.1 i.2)

pub entry_next : (limit least : ℕ) (s : List ℕ) (at v n : ℕ) → entry limit least s at ≡ got v n → entry limit least s at ≡ got v (at + 1)
entry_next limit least s at v n h = h ∙ ap (got v) (entry-byte limit least s at v n h).2

-- so the sheet itself says which entry was found
pub entry-here : (limit least : ℕ) (s : List ℕ) (at v n : ℕ) → entry limit least s at ≡ got v n → entry limit least s at ≡ got (get_or s at 0) (at + 1)
entry-here limit least s at v n h = entry_next limit least s at v n h ∙ ap (λ (e : ℕ). got e (at + 1)) (entry-byte limit least s at v n h).1

-- so it is with a count
within-is : (most first m a v n : ℕ) (s : List ℕ) → within most first m s a ≡ got v n → (v ≡ m) × (n ≡ a)
unfolding within
within-is most first m a v n s h = go (leb m most) _ h
  where
    go : (b : Bool) (w : Refusal) → pick b (got m a) (refused w) ≡ got v n → (v ≡ m) × (n ≡ a)
    go true w h = (cc, cc)
    go false w h = absurd (apart v n w (sym h))

pub count-byte : (most : ℕ) (s : List ℕ) (at v n : ℕ) → count most s at ≡ got v n → (at < length s) × (v ≡ get_or s at 0) × (n ≡ at + 1)
unfolding count
count-byte most s at v n h =
    let i = next-inv (byte s at) _ v n h in
    let r = within-is most at i.0 i.1 v n s i.3 in
    (byte-in s at i.0 i.1 i.2, r.0 ∙ byte-is s at i.0 i.1 i.2, r.1 ∙ byte_next s at i.0 i.1 i.2)

pub count-here : (most : ℕ) (s : List ℕ) (at v n : ℕ) → count most s at ≡ got v n → count most s at ≡ got (get_or s at 0) (at + 1)
count-here most s at v n h = let is = count-byte most s at v n h in h ∙ (λ i. got (is.1 i) (is.2 i))

-- a turn of a loop over entries, of which `left` are left: the first of them was found, or refused
module _ {B : Type 0} (limit least : ℕ) (s : List ℕ) (at : ℕ) (k : List ℕ → ℕ → Step B) where
  go-suc : (m e n : ℕ) → entry limit least s at ≡ got e n
      → next (entries (suc m) limit least s at) k ≡ next (entries m limit (e + 1) s n) (λ es a. k (e ∷ es) a)
  unfolding entries
  go-suc m e n h = rw h (assoc (entries m limit (e + 1) s n) (λ es a. got (e ∷ es) a) k)

  pub entries-go : (left rest e n : ℕ) → left ≡ suc rest → entry limit least s at ≡ got e n
      → next (entries left limit least s at) k ≡ next (entries rest limit (e + 1) s n) (λ es a. k (e ∷ es) a)
  entries-go left rest e n l h = ap (λ (j : ℕ). next (entries j limit least s at) k) l ∙ go-suc rest e n h

  pub entries-stop : (left : ℕ) (w : Refusal) → 0 < left → entry limit least s at ≡ refused w → next (entries left limit least s at) k ≡ refused w
  unfolding entries
  entries-stop zero w l h = absurd (not-suc-le-zero l)
  entries-stop (suc m) w l h = rw h

  pub entries_none : (left : ℕ) → left ≤ 0 → next (entries left limit least s at) k ≡ k [] at
  unfolding entries
  entries_none zero l = refl
  entries_none (suc m) l = absurd (not-suc-le-zero l)

-- as many entries as were asked for
pub entries-length : (n limit least : ℕ) (s : List ℕ) (at : ℕ) (es : List ℕ) (m : ℕ) → entries n limit least s at ≡ got es m → length es ≡ n
unfolding entries
entries-length zero limit least s at es m h = ap length (sym (got-inj [] es at m h))
entries-length (suc n) limit least s at es m h =
    let i = next-inv (entry limit least s at) _ es m h in
    let j = next-inv (entries n limit (i.0 + 1) s i.1) _ es m i.3 in
    ap length (sym (got-inj _ es _ m j.3)) ∙ ap suc (entries-length n limit (i.0 + 1) s i.1 j.0 j.1 j.2)
