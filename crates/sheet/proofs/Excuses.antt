-- What `read_excuses` and `read_terms` come to, from the steps that they took: how the excuses' count, and the rules, were refused or found.
--     excuses-one                     form one has no excuses
--     excuses-stop, excuses-go        in form two their count was refused, and found
--     terms-stop, terms-go            the rules were refused, and found
--     excuses-part, terms-stop-part, terms-part       the same where each was stored in its part of the lent masks
-- x is what a callee answered, l what the lent masks were, l₁ what they, or the part with the rules, are after the rules, and l₂ after the excuses.
-- Assumes nothing.
use mathlib.Core.Path.{◌≡◌, refl, sym, ap, ◌∙◌}
use mathlib.Core.List.{List, ◌++◌, append-nil}
use Prim.Native.Nat.{ℕ, ◌+◌, ◌-◌, ◌≤◌}
use native.Mathlib.Omega.{arith}
use lib.ListN.{length, take, drop}
use lib.Seq.{sets, length-sets, length-take-le}
use Rattle.steps.specs.declared.Refusal.{Refusal}
use Rattle.std.specs.Prelude.{Ok, Err}
use Rattle.steps.specs.Bytes.{word_count}
use Rattle.steps.specs.Found.{Read, as_read}
use Rattle.steps.proofs.Entries.{next-inv}
use Rattle.steps.specs.Step.{Step, got, refused}
use Rattle.steps.proofs.Runs.{joined, front_of, rest_of}
use Rattle.steps.proofs.Steps.{found, faulty}
use Rattle.sheet.specs.declared.Form.{Form}
use Rattle.sheet.specs.declared.Form.TheVariants.{One, Two}
use Rattle.sheet.specs.JobSheet.{rules, terms_of, wire_terms_of, excuse_limit}
use Rattle.sheet.specs.JobFound.{rules_pass, excuses_pass, terms_pass, kept, after, kept_excuses, kept_terms}
use Rattle.sheet.proofs.Jobs.{rules-length}
use Rattle.sheet.proofs.Laws.{kept-is}
use Rattle.sheet.proofs.Heads.{word-count-bounds}
use Rattle.sheet.proofs.Rules.{kept-few}

-- no more excuses are stored than a sheet may have
excuses-kept-few : (f : Form) (n : ℕ) (s : List ℕ) (at : ℕ) → length (kept_excuses f n s at) ≤ excuse_limit
unfolding kept_excuses
excuses-kept-few One n s at = omega arith
excuses-kept-few Two n s at = go (word_count excuse_limit s at) refl
  where
    go : (t : Step ℕ) → word_count excuse_limit s at ≡ t → length (after t (λ k first. kept k (wire_terms_of n) s first)) ≤ excuse_limit
    go (got k m) e = let few = kept-few k (wire_terms_of n) s m in let bound = word-count-bounds excuse_limit s at k m e in omega arith
    go (refused w) e = omega arith

module _ (n : ℕ) (s : List ℕ) (at : ℕ) (l : List ℕ) (first : ℕ) where
  pub excuses-one : (f : Form) → f ≡ One → (Ok (0, at) ≡ as_read (excuses_pass f n s at)) × (l ≡ sets l first (kept_excuses f n s at))
  unfolding excuses_pass kept_excuses
  excuses-one f e = rw e (refl, refl)

  module _ (f : Form) (two : f ≡ Two) (x : Read) (is : x ≡ as_read (word_count excuse_limit s at)) where
    pub excuses-stop : (w : Refusal) → x ≡ Err w → (x ≡ as_read (excuses_pass f n s at)) × (l ≡ sets l first (kept_excuses f n s at))
    unfolding excuses_pass kept_excuses
    excuses-stop w e = rw (two, faulty (word_count excuse_limit s at) x w is e) (e, refl)

    module _ (k m : ℕ) (e : x ≡ Ok (k, m)) where
      pub excuses-go : (terms : ℕ) → terms ≡ terms_of n → (y : Read) (l₁ : List ℕ) → y ≡ as_read (rules_pass k (terms - 4) s m) → l₁ ≡ sets l first (kept k (terms - 4) s m)
          → (y ≡ as_read (excuses_pass f n s at)) × (l₁ ≡ sets l first (kept_excuses f n s at))
      unfolding excuses_pass kept_excuses
      excuses-go terms t y l₁ p q =
          let same : terms - 4 ≡ wire_terms_of n = omega arith in
          rw (two, found (word_count excuse_limit s at) x k m is e) (p ∙ ap (λ (j : ℕ). as_read (rules_pass k j s m)) same, q ∙ ap (λ (j : ℕ). sets l first (kept k j s m)) same)

-- they were stored in the first k of the lent masks
module _ (n : ℕ) (s : List ℕ) (at : ℕ) (l : List ℕ) (f : Form) (two : f ≡ Two) (x : Read) (is : x ≡ as_read (word_count excuse_limit s at)) (k m : ℕ) (e : x ≡ Ok (k, m)) (room : excuse_limit ≤ length l) where
  few : k ≤ length l
  few = let bound = word-count-bounds excuse_limit s at k m (found (word_count excuse_limit s at) x k m is e) in omega arith

  pub excuses-part : (terms : ℕ) → terms ≡ terms_of n → (y : Read) (l₁ : List ℕ) → y ≡ as_read (rules_pass (length (take k l)) (terms - 4) s m)
      → l₁ ≡ sets (take k l) 0 (kept (length (take k l)) (terms - 4) s m) → (y ≡ as_read (excuses_pass f n s at)) × (l₁ ++ drop k l ≡ sets l 0 (kept_excuses f n s at))
  excuses-part terms t y l₁ p q =
      let long : length (take k l) ≡ k = length-take-le k l few in
      excuses-go n s at l 0 f two x is k m e terms t y (l₁ ++ drop k l) (p ∙ ap (λ (h : ℕ). as_read (rules_pass h (terms - 4) s m)) long)
      (front_of l k (kept k (terms - 4) s m) l₁ (q ∙ ap (λ (h : ℕ). sets (take k l) 0 (kept h (terms - 4) s m)) long) (kept-few k (terms - 4) s m) few)

module _ (f : Form) (n k terms : ℕ) (s : List ℕ) (at : ℕ) (l l₁ : List ℕ) (t : terms ≡ terms_of n) (x : Read) (is : x ≡ as_read (rules_pass k terms s at)) (so : l₁ ≡ sets l 0 (kept k terms s at)) where
  read-so : x ≡ as_read (rules_pass k (terms_of n) s at)
  read-so = is ∙ ap (λ (j : ℕ). as_read (rules_pass k j s at)) t

  stored-so : l₁ ≡ sets l 0 (kept k (terms_of n) s at)
  stored-so = so ∙ ap (λ (j : ℕ). sets l 0 (kept k j s at)) t

  pub terms-stop : (w : Refusal) → x ≡ Err w → (x ≡ as_read (terms_pass f n k s at)) × (l₁ ≡ sets l 0 (kept_terms f n k s at))
  unfolding terms_pass kept_terms
  terms-stop w e = rw (faulty (rules_pass k (terms_of n) s at) x w read-so e) (e, stored-so ∙ ap (sets l 0) (sym (append-nil (kept k (terms_of n) s at))))

  -- as many were stored as there are
  kept-count : (v m : ℕ) → x ≡ Ok (v, m) → k ≡ 0 + length (kept k (terms_of n) s at)
  unfolding rules_pass
  kept-count v m e =
      let i = next-inv (rules k (terms_of n) s at) _ v m (found _ x v m read-so e) in
      omega (arith, ap length (kept-is k (terms_of n) s at i.0 i.1 i.2), rules-length k (terms_of n) s at i.0 i.1 i.2)

  pub terms-go : (v m : ℕ) → x ≡ Ok (v, m) → (y : Read) (l₂ : List ℕ) → y ≡ as_read (excuses_pass f n s m) → l₂ ≡ sets l₁ k (kept_excuses f n s m)
      → (y ≡ as_read (terms_pass f n k s at)) × (l₂ ≡ sets l 0 (kept_terms f n k s at))
  unfolding terms_pass kept_terms
  terms-go v m e y l₂ p q =
      rw (found (rules_pass k (terms_of n) s at) x v m read-so e) (p, joined l l₁ l₂ 0 k (kept k (terms_of n) s at) (kept_excuses f n s m) stored-so (kept-count v m e) q)

-- the rules were stored in the first k of the lent masks l, which is l₁ then
module _ (f : Form) (n k terms : ℕ) (s : List ℕ) (at : ℕ) (l l₁ : List ℕ) (t : terms ≡ terms_of n) (x : Read) (fits : k ≤ length l)
    (is : x ≡ as_read (rules_pass (length (take k l)) terms s at)) (so : l₁ ≡ sets (take k l) 0 (kept (length (take k l)) terms s at)) where
  read-all : x ≡ as_read (rules_pass k terms s at)
  read-all = is ∙ ap (λ (h : ℕ). as_read (rules_pass h terms s at)) (length-take-le k l fits)

  stored-all : l₁ ++ drop k l ≡ sets l 0 (kept k terms s at)
  stored-all = front_of l k (kept k terms s at) l₁ (so ∙ ap (λ (h : ℕ). sets (take k l) 0 (kept h terms s at)) (length-take-le k l fits)) (kept-few k terms s at) fits

  pub terms-stop-part : (w : Refusal) → x ≡ Err w → (x ≡ as_read (terms_pass f n k s at)) × (l₁ ++ drop k l ≡ sets l 0 (kept_terms f n k s at))
  terms-stop-part w e = terms-stop f n k terms s at l (l₁ ++ drop k l) t x read-all stored-all w e

  -- and the excuses in those after them, of which there are r
  pub terms-part : (v m : ℕ) → x ≡ Ok (v, m) → (y : Read) (l₂ : List ℕ) (r : ℕ) → y ≡ as_read (excuses_pass f n s m) → l₂ ≡ sets (take r (drop k (l₁ ++ drop k l))) 0 (kept_excuses f n s m)
      → k + excuse_limit ≤ length l → length l ≤ k + r
      → (y ≡ as_read (terms_pass f n k s at)) × (take k (l₁ ++ drop k l) ++ (l₂ ++ drop r (drop k (l₁ ++ drop k l))) ≡ sets l 0 (kept_terms f n k s at))
  terms-part v m e y l₂ r p q room all =
      let long : length (l₁ ++ drop k l) ≡ length l = ap length stored-all ∙ length-sets l 0 (kept k terms s at) in
      let few = excuses-kept-few f n s m in
      terms-go f n k terms s at l (l₁ ++ drop k l) t x read-all stored-all v m e y _ p (rest_of (l₁ ++ drop k l) k r (kept_excuses f n s m) l₂ q (omega arith) (omega arith))
