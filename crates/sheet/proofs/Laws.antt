-- What a sheet that is accepted has, for whoever calls `read_job`: j is the job, s the sheet.
--     pins-stay       the pins stand in the sheet, from place 1 on
--     rules-front, excuses-next     the lent array begins with the rules, and after them the excuses
--     job-bounds, seen-bounds, rule-bounds, excuses-most, excuse-bounds      how many pins, rules, excuses and seen wires there are, and what each set is below
--     none-excused    in form one a job has no excuses
--     Sections        where its sections stand
-- Assumes nothing.
use mathlib.Core.Path.{◌≡◌, sym, ap, ◌∙◌}
use mathlib.Core.List.{List, [], ◌∷◌, ◌++◌, append_assoc}
use Prim.Native.Nat.{ℕ, zero, suc, ◌+◌, ◌*◌, ◌^◌, ◌≤◌, ◌<◌}
use native.Mathlib.Nat.{zero-add, pow-suc}
use native.Mathlib.Numerals.{add-one}
use native.Mathlib.Omega.{arith}
use lib.ListN.{length, get_or, take, drop, length-append}
use lib.Count.{ones}
use lib.Pow.{pow_mono}
use lib.Seq.{sets, sets-eq, drop-cons, take-append_seam, drop-append_seam}
use Rattle.steps.specs.Step.{Step, got, refused}
use Rattle.sheet.specs.declared.Form.{Form}
use Rattle.sheet.specs.declared.Form.TheVariants.{One, Two}
use Rattle.sheet.specs.Job.{Job, Head, accepted}
use Rattle.steps.specs.Bytes.{entry, entries, count, word_count, end}
use Rattle.sheet.specs.JobSheet.{mask_of, mask, counted_mask, rules, excuses, head, job, read_job, verdict_of, terms_of, wire_terms_of, wire_limit, seen_limit, rule_limit, excuse_limit, pin_limit}
use Rattle.sheet.specs.JobFound.{rules_pass, kept, kept_excuses, kept_terms, kept_masks}
use Rattle.steps.proofs.Entries.{next-inv, got-inj, entry-bounds, entry-byte}
use Rattle.steps.proofs.Near.{end-there}
use Rattle.sheet.proofs.Heads.{count-bounds, word-count-bounds, head-facts}
use Rattle.sheet.proofs.Jobs.{rules-length}
use Rattle.sheet.proofs.Ones.{counted-ones}

-- entries that were found stand in the sheet
entries-are : (n limit least : ℕ) (s : List ℕ) (at : ℕ) (es : List ℕ) (m : ℕ) → entries n limit least s at ≡ got es m → es ≡ take n (drop at s)
unfolding entries
entries-are zero limit least s at es m h = sym (got-inj [] es at m h)
entries-are (suc n) limit least s at es m h =
    let i = next-inv (entry limit least s at) _ es m h in
    let j = next-inv (entries n limit (i.0 + 1) s i.1) _ es m i.3 in
    let b = entry-byte limit least s at i.0 i.1 i.2 in
    let rest : j.0 ≡ take n (drop (suc at) s) = entries-are n limit (i.0 + 1) s i.1 j.0 j.1 j.2 ∙ ap (λ (k : ℕ). take n (drop k s)) (b.2 ∙ add-one at) in
    sym (got-inj _ es _ m j.3) ∙ (λ k. b.1 k ∷ rest k) ∙ ap (take (suc n)) (sym (drop-cons s at 0 b.0))

-- a set that was found is below the bit of its limit
entries-lt : (n limit least : ℕ) (s : List ℕ) (at : ℕ) (es : List ℕ) (m : ℕ) → least ≤ limit → entries n limit least s at ≡ got es m → mask_of es + 2 ^ least ≤ 2 ^ limit
unfolding entries mask_of
entries-lt zero limit least s at es m l h = rw (← got-inj [] es at m h, zero-add) (pow_mono l)
entries-lt (suc n) limit least s at es m l h =
    let i = next-inv (entry limit least s at) _ es m h in
    let j = next-inv (entries n limit (i.0 + 1) s i.1) _ es m i.3 in
    let b = entry-bounds limit least s at i.0 i.1 i.2 in
    let more : mask_of j.0 + 2 ^ (i.0 + 1) ≤ 2 ^ limit = entries-lt n limit (i.0 + 1) s i.1 j.0 j.1 (omega arith) j.2 in
    let twice : 2 ^ (i.0 + 1) ≡ 2 ^ i.0 * 2 = ap (λ (k : ℕ). 2 ^ k) (add-one i.0) ∙ pow-suc 2 i.0 in
    let low : 2 ^ least ≤ 2 ^ i.0 = pow_mono b.1 in
    rw (← got-inj _ es _ m j.3) (omega arith)

mask_lt : (n limit : ℕ) (s : List ℕ) (at v m : ℕ) → mask n limit s at ≡ got v m → v < 2 ^ limit
unfolding mask
mask_lt n limit s at v m h =
    let i = next-inv (entries n limit 0 s at) _ v m h in
    let same : mask_of i.0 ≡ v = got-inj _ v _ m i.3 in
    let most : mask_of i.0 + 2 ^ 0 ≤ 2 ^ limit = entries-lt n limit 0 s at i.0 i.1 (omega arith) i.2 in
    omega arith

pub counted-lt : (most limit : ℕ) (s : List ℕ) (at v m : ℕ) → counted_mask most limit s at ≡ got v m → v < 2 ^ limit
unfolding counted_mask
counted-lt most limit s at v m h = let i = next-inv (count most s at) _ v m h in mask_lt i.0 limit s i.1 v m i.3

head-sets : (s : List ℕ) (h : Head) (at : ℕ) → head s 0 ≡ got h at → (h.sees_a < 2 ^ h.wires) × (h.sees_b < 2 ^ h.wires) × (h.pins ≡ take h.wires (drop 1 s)) × (ones h.sees_a ≤ seen_limit) × (ones h.sees_b ≤ seen_limit)
unfolding head
head-sets s h at e =
    let i₁ = next-inv (count wire_limit s 0) _ h at e in
    let i₂ = next-inv (entries i₁.0 pin_limit 0 s i₁.1) _ h at i₁.3 in
    let i₃ = next-inv (counted_mask seen_limit i₁.0 s i₂.1) _ h at i₂.3 in
    let i₄ = next-inv (counted_mask seen_limit i₁.0 s i₃.1) _ h at i₃.3 in
    let i₅ = next-inv (word_count rule_limit s i₄.1) _ h at i₄.3 in
    let same = got-inj _ _ _ _ i₅.3 in
    let place : i₁.1 ≡ 1 = (count-bounds wire_limit s 0 i₁.0 i₁.1 i₁.2).1 in
    let pins : i₂.0 ≡ take i₁.0 (drop i₁.1 s) = entries-are i₁.0 pin_limit 0 s i₁.1 i₂.0 i₂.1 i₂.2 in
    rw (← same) (
      counted-lt seen_limit i₁.0 s i₂.1 i₃.0 i₃.1 i₃.2,
      counted-lt seen_limit i₁.0 s i₃.1 i₄.0 i₄.1 i₄.2,
      pins ∙ ap (λ (k : ℕ). take i₁.0 (drop k s)) place,
      counted-ones seen_limit i₁.0 s i₂.1 i₃.0 i₃.1 i₃.2,
      counted-ones seen_limit i₁.0 s i₃.1 i₄.0 i₄.1 i₄.2,
    )

-- the rules that were found are those that are stored, and each is below the bit of the terms' number
pub kept-is : (n terms : ℕ) (s : List ℕ) (at : ℕ) (rs : List ℕ) (m : ℕ) → rules n terms s at ≡ got rs m → kept n terms s at ≡ rs
unfolding rules kept
kept-is zero terms s at rs m h = got-inj [] rs at m h
kept-is (suc n) terms s at rs m h =
    let i = next-inv (counted_mask terms terms s at) _ rs m h in
    let j = next-inv (rules n terms s i.1) _ rs m i.3 in
    rw i.2 (ap (λ (l : List ℕ). i.0 ∷ l) (kept-is n terms s i.1 j.0 j.1 j.2) ∙ got-inj _ rs _ m j.3)

Below : ℕ → List ℕ → Type 0
Below b l = (i : ℕ) → i < length l → get_or l i 0 < b

below-nil : (b : ℕ) → Below b []
unfolding Below
below-nil b i p = omega arith

below-cons : (b r : ℕ) (l : List ℕ) → r < b → Below b l → Below b (r ∷ l)
unfolding Below
below-cons b r l h f zero p = h
below-cons b r l h f (suc i) p = f i (omega arith)

rules-lt : (n terms : ℕ) (s : List ℕ) (at : ℕ) (rs : List ℕ) (m : ℕ) → rules n terms s at ≡ got rs m → Below (2 ^ terms) rs
unfolding rules
rules-lt zero terms s at rs m h = rw (← got-inj [] rs at m h) (below-nil (2 ^ terms))
rules-lt (suc n) terms s at rs m h =
    let i = next-inv (counted_mask terms terms s at) _ rs m h in
    let j = next-inv (rules n terms s i.1) _ rs m i.3 in
    rw (← got-inj _ rs _ m j.3)
    (below-cons (2 ^ terms) i.0 j.0 (counted-lt terms terms s at i.0 i.1 i.2) (rules-lt n terms s i.1 j.0 j.1 j.2))

pub accepted-inv : (t : Step Job) (j : Job) → verdict_of t ≡ accepted j → (m : ℕ) × (t ≡ got j m)
accepted-inv (got k m) j h = let e : k ≡ j = cc in (m, ap (λ (x : Job). got x m) e)
accepted-inv (refused w) j h = let z : ◌≡◌ {A = ℕ} 0 1 = cc in let no : ⊥ = omega arith in absurd no

-- the excuses that were found are those that are stored, and so with the rules before them
excuses-kept : (f : Form) (n : ℕ) (s : List ℕ) (at : ℕ) (es : List ℕ) (m : ℕ) → excuses f n s at ≡ got es m → kept_excuses f n s at ≡ es
unfolding excuses kept_excuses
excuses-kept One n s at es m h = got-inj [] es at m h
excuses-kept Two n s at es m h =
    let i = next-inv (word_count excuse_limit s at) _ es m h in
    rw i.2 (kept-is i.0 (wire_terms_of n) s i.1 es m i.3)

terms-kept : (f : Form) (n k : ℕ) (s : List ℕ) (at : ℕ) (rs es : List ℕ) (l m : ℕ) → rules k (terms_of n) s at ≡ got rs l → excuses f n s l ≡ got es m
    → kept_terms f n k s at ≡ rs ++ es
unfolding kept_terms rules_pass
terms-kept f n k s at rs es l m h g = rw (kept-is k (terms_of n) s at rs l h, h, excuses-kept f n s l es m g)

-- there are no more than 64 of them, and each is below the bit of the wires' terms' number
excuses-few : (f : Form) (n : ℕ) (s : List ℕ) (at : ℕ) (es : List ℕ) (m : ℕ) → excuses f n s at ≡ got es m → (length es ≤ excuse_limit) × Below (2 ^ wire_terms_of n) es
unfolding excuses
excuses-few One n s at es m h = rw (← got-inj [] es at m h) (omega arith, below-nil (2 ^ wire_terms_of n))
excuses-few Two n s at es m h =
    let i = next-inv (word_count excuse_limit s at) _ es m h in
    let k = rules-length i.0 (wire_terms_of n) s i.1 es m i.3 in
    (rw k (word-count-bounds excuse_limit s at i.0 i.1 i.2), rules-lt i.0 (wire_terms_of n) s i.1 es m i.3)

-- the sections of a sheet that is accepted
pub record Sections (f : Form) (s : List ℕ) (j : Job) : Type 0 where
  pub top : Head
  pub at_rules : ℕ
  pub at_excuses : ℕ
  pub last : ℕ
  pub head_is : head s 0 ≡ got top at_rules
  pub rules_are : rules top.count (terms_of top.wires) s at_rules ≡ got j.rules at_excuses
  pub excuses_are : excuses f top.wires s at_excuses ≡ got j.excuses last
  pub ends : length s ≤ last
  pub job_is : record { pins = top.pins; sees_a = top.sees_a; sees_b = top.sees_b; rules = j.rules; excuses = j.excuses } ≡ j

pub sections : (f : Form) (s : List ℕ) (j : Job) → read_job f s ≡ accepted j → Sections f s j
unfolding read_job job
sections f s j ok =
    let a = accepted-inv (job f s 0) j ok in
    let i = next-inv (head s 0) _ j a.0 a.1 in
    let r = next-inv (rules i.0.count (terms_of i.0.wires) s i.1) _ j a.0 i.3 in
    let x = next-inv (excuses f i.0.wires s r.1) _ j a.0 r.3 in
    let e = next-inv (end s x.1) _ j a.0 x.3 in
    let same = got-inj _ j _ _ e.3 in
    record {
      top = i.0;
      at_rules = i.1;
      at_excuses = r.1;
      last = x.1;
      head_is = i.2;
      rules_are = r.2 ∙ ap (λ (k : Job). got k.rules r.1) same;
      excuses_are = x.2 ∙ ap (λ (k : Job). got k.excuses x.1) same;
      ends = end-there s x.1 e.0 e.1 e.2;
      job_is = λ k. record { pins = (same k).pins; sees_a = (same k).sees_a; sees_b = (same k).sees_b; rules = j.rules; excuses = j.excuses };
    }

module _ (f : Form) (s : List ℕ) (j : Job) (ok : read_job f s ≡ accepted j) where
  abbrev x : Sections f s j
  x = sections f s j ok

  pins-are : j.pins ≡ x.top.pins
  pins-are = sym (ap (λ (k : Job). k.pins) x.job_is)

  a-is : j.sees_a ≡ x.top.sees_a
  a-is = sym (ap (λ (k : Job). k.sees_a) x.job_is)

  b-is : j.sees_b ≡ x.top.sees_b
  b-is = sym (ap (λ (k : Job). k.sees_b) x.job_is)

  wires-are : length j.pins ≡ x.top.wires
  wires-are = ap length pins-are ∙ (head-facts s x.top x.at_rules x.head_is).2

  pub pins-stay : j.pins ≡ take (length j.pins) (drop 1 s)
  pins-stay = pins-are ∙ (head-sets s x.top x.at_rules x.head_is).2 ∙ ap (λ (k : ℕ). take k (drop 1 s)) (sym wires-are)

  -- all that is stored is the rules and the excuses
  pub masks-kept : kept_masks f s ≡ j.rules ++ j.excuses
  unfolding kept_masks
  masks-kept = rw x.head_is (terms-kept f x.top.wires x.top.count s x.at_rules j.rules j.excuses x.at_excuses x.last x.rules_are x.excuses_are)

  module _ (buf : List ℕ) (l : length j.rules + length j.excuses ≤ length buf) where
    stored : sets buf 0 (kept_masks f s) ≡ j.rules ++ (j.excuses ++ drop (length j.rules + length j.excuses) buf)
    stored =
        let long : length (j.rules ++ j.excuses) ≡ length j.rules + length j.excuses = length-append j.rules j.excuses in
        let fits : 0 + length (j.rules ++ j.excuses) ≤ length buf = omega arith in
        let place : 0 + length (j.rules ++ j.excuses) ≡ length j.rules + length j.excuses = omega arith in
        ap (sets buf 0) masks-kept ∙ sets-eq (j.rules ++ j.excuses) buf 0 fits ∙ ap (λ (k : ℕ). (j.rules ++ j.excuses) ++ drop k buf) place
        ∙ append_assoc j.rules j.excuses (drop (length j.rules + length j.excuses) buf)

    pub rules-front : take (length j.rules) (sets buf 0 (kept_masks f s)) ≡ j.rules
    rules-front = rw stored (take-append_seam j.rules (j.excuses ++ drop (length j.rules + length j.excuses) buf))

    pub excuses-next : take (length j.excuses) (drop (length j.rules) (sets buf 0 (kept_masks f s))) ≡ j.excuses
    excuses-next =
        rw (stored, drop-append_seam j.rules (j.excuses ++ drop (length j.rules + length j.excuses) buf))
        (take-append_seam j.excuses (drop (length j.rules + length j.excuses) buf))

  pub job-bounds : (length j.pins ≤ wire_limit) × (length j.rules ≤ rule_limit) × (j.sees_a < 2 ^ length j.pins) × (j.sees_b < 2 ^ length j.pins)
  job-bounds =
      let b = head-facts s x.top x.at_rules x.head_is in
      let g = head-sets s x.top x.at_rules x.head_is in
      let k : length j.rules ≡ x.top.count = rules-length x.top.count (terms_of x.top.wires) s x.at_rules j.rules x.at_excuses x.rules_are in
      (rw wires-are b.0, rw k b.1, rw (a-is, wires-are) g.0, rw (b-is, wires-are) g.1)

  pub seen-bounds : (ones j.sees_a ≤ seen_limit) × (ones j.sees_b ≤ seen_limit)
  seen-bounds =
      let g = head-sets s x.top x.at_rules x.head_is in
      (rw a-is g.3, rw b-is g.4)

  pub rule-bounds : (i : ℕ) → i < length j.rules → get_or j.rules i 0 < 2 ^ terms_of (length j.pins)
  unfolding Below
  rule-bounds i h = rw wires-are (rules-lt x.top.count (terms_of x.top.wires) s x.at_rules j.rules x.at_excuses x.rules_are i h)

  pub excuses-most : length j.excuses ≤ excuse_limit
  excuses-most = (excuses-few f x.top.wires s x.at_excuses j.excuses x.last x.excuses_are).0

  pub excuse-bounds : (i : ℕ) → i < length j.excuses → get_or j.excuses i 0 < 2 ^ wire_terms_of (length j.pins)
  unfolding Below
  excuse-bounds i h = rw wires-are ((excuses-few f x.top.wires s x.at_excuses j.excuses x.last x.excuses_are).1 i h)

-- in form one a job has no excuses
pub none-excused : (s : List ℕ) (j : Job) → read_job One s ≡ accepted j → j.excuses ≡ []
unfolding excuses
none-excused s j ok = let x = sections One s j ok in sym (got-inj [] j.excuses x.at_excuses x.last x.excuses_are)
