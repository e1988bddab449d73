-- A sheet of form one, and the same sheet with no excuses in form two, are one job.
--     fifth-is, fifth-inside      where the excuse count of a sheet of form two stands
--     none_last      without excuses it is the last two bytes
--     five-bytes, seven-bytes     no sheet is shorter than 5 bytes, and none of form two than 7
--     form-two       what form one accepts, form two accepts as the same job, with two bytes more
--     form-one       and back, where the job has no excuses: else those bytes may be two empty ones
-- Assumes nothing.
use mathlib.Core.Path.{◌≡◌, sym, ap, ◌∙◌}
use mathlib.Core.List.{List, [], ◌∷◌, ◌++◌}
use Prim.Native.Nat.{ℕ, zero, suc, ◌+◌, ◌≤◌}
use native.Mathlib.Omega.{arith}
use lib.ListN.{length, length-append, get_or-append}
use Rattle.steps.specs.Step.{got}
use Rattle.steps.specs.Bytes.{count, word_count, entries}
use Rattle.steps.proofs.Entries.{next-inv, got-inj, place_same}
use Rattle.steps.proofs.Near.{Alike, word_next, end_read}
use Rattle.steps.proofs.Goes.{Goes, goes_then, goes-give, goes-count, goes-word-count, goes-entries}
use Rattle.sheet.specs.declared.Form.{Form}
use Rattle.sheet.specs.declared.Form.TheVariants.{One, Two}
use Rattle.sheet.specs.Job.{Job, Head, accepted}
use Rattle.sheet.specs.JobSheet.{wire_limit, seen_limit, pin_limit, rule_limit, excuse_limit, terms_of, wire_terms_of, mask_of, mask, counted_mask, rules, excuses, head, job, read_job}
use Rattle.sheet.proofs.Heads.{count-bounds, word-count-is}
use Rattle.sheet.proofs.Jobs.{rules-length}
use Rattle.sheet.proofs.Laws.{Sections, sections}
use Rattle.sheet.proofs.Length.{job_of}
use Rattle.sheet.proofs.Longest.{low_count}

-- ---- the sections

goes_set : (most limit : ℕ) → Goes (counted_mask most limit)
unfolding counted_mask mask
goes_set most limit = goes_then (count most) _ (goes-count most) (λ n. goes_then (entries n limit 0) _ (goes-entries n limit 0) (λ es. goes-give (mask_of es)))

pub goes-rules : (n terms : ℕ) → Goes (rules n terms)
unfolding rules
goes-rules zero terms = goes-give []
goes-rules (suc n) terms = goes_then (counted_mask terms terms) _ (goes_set terms terms) (λ r. goes_then (rules n terms) _ (goes-rules n terms) (λ rs. goes-give (r ∷ rs)))

pub goes-head : Goes head
unfolding head
goes-head =
    goes_then (count wire_limit) _ (goes-count wire_limit) (λ n.
    goes_then (entries n pin_limit 0) _ (goes-entries n pin_limit 0) (λ pins.
    goes_then (counted_mask seen_limit n) _ (goes_set seen_limit n) (λ a.
    goes_then (counted_mask seen_limit n) _ (goes_set seen_limit n) (λ b.
    goes_then (word_count rule_limit) _ (goes-word-count rule_limit) (λ k.
    goes-give (record { wires = n; pins = pins; sees_a = a; sees_b = b; count = k }))))))

-- ---- the two forms

word-count-next : (most : ℕ) (s : List ℕ) (at v n : ℕ) → word_count most s at ≡ got v n → n ≡ at + 2
word-count-next most s at v n h = word_next s at v n (word-count-is most s at v n h)

-- the sections down to the count of rules take 5 bytes or more
set_on : (most limit : ℕ) (s : List ℕ) (at v n : ℕ) → counted_mask most limit s at ≡ got v n → at + 1 ≤ n
unfolding counted_mask mask
set_on most limit s at v n h =
    let i = next-inv (count most s at) _ v n h in
    let j = next-inv (entries i.0 limit 0 s i.1) _ v n i.3 in
    omega (arith, (count-bounds most s at i.0 i.1 i.2).1, (goes-entries i.0 limit 0).on s i.1 j.0 j.1 j.2, place_same j.3)

head-on : (s : List ℕ) (h : Head) (n : ℕ) → head s 0 ≡ got h n → 5 ≤ n
unfolding head
head-on s h n e =
    let i = next-inv (count wire_limit s 0) _ h n e in
    let p = next-inv (entries i.0 pin_limit 0 s i.1) _ h n i.3 in
    let a = next-inv (counted_mask seen_limit i.0 s p.1) _ h n p.3 in
    let b = next-inv (counted_mask seen_limit i.0 s a.1) _ h n a.3 in
    let k = next-inv (word_count rule_limit s b.1) _ h n b.3 in
    let pins = (goes-entries i.0 pin_limit 0).on s i.1 p.0 p.1 p.2 in
    let first = (count-bounds wire_limit s 0 i.0 i.1 i.2).1 in
    omega (
      arith,
      first,
      pins,
      set_on seen_limit i.0 s p.1 a.0 a.1 a.2,
      set_on seen_limit i.0 s a.1 b.0 b.1 b.2,
      word-count-next rule_limit s b.1 k.0 k.1 k.2,
      place_same k.3,
    )

pub five-bytes : (f : Form) (s : List ℕ) (j : Job) → read_job f s ≡ accepted j → 5 ≤ length s
five-bytes f s j ok =
    let x = sections f s j ok in
    omega (arith, head-on s x.top x.at_rules x.head_is, goes-head.inside s 0 x.top x.at_rules x.head_is (omega arith))

no-rules : (rs : List ℕ) (terms : ℕ) (s : List ℕ) (at n : ℕ) → rs ≡ [] → rules (length rs) terms s at ≡ got rs n → at ≡ n
unfolding rules
no-rules rs terms s at n none h = let there : got [] at ≡ got [] n = rw none at h in place_same there

-- a sheet of form two that is accepted
module _ (t : List ℕ) (j : Job) (ok : read_job Two t ≡ accepted j) where
  abbrev x : Sections Two t j
  x = sections Two t j ok

  -- the excuse count stands after the rules, and the excuses after it
  pub fifth-is : (word_count excuse_limit t x.at_excuses ≡ got (length j.excuses) (x.at_excuses + 2))
      × (rules (length j.excuses) (wire_terms_of x.top.wires) t (x.at_excuses + 2) ≡ got j.excuses x.last)
  unfolding excuses
  fifth-is =
      let w = next-inv (word_count excuse_limit t x.at_excuses) _ j.excuses x.last x.excuses_are in
      let many = rules-length w.0 (wire_terms_of x.top.wires) t w.1 j.excuses x.last w.3 in
      rw (many, ← word-count-next excuse_limit t x.at_excuses w.0 w.1 w.2) (w.2, w.3)

  pub fifth-inside : x.at_excuses + 2 ≤ length t
  fifth-inside =
      let first = goes-head.inside t 0 x.top x.at_rules x.head_is (omega arith) in
      let there = (goes-rules x.top.count (terms_of x.top.wires)).inside t x.at_rules j.rules x.at_excuses x.rules_are first in
      (goes-word-count excuse_limit).inside t x.at_excuses _ _ fifth-is.0 there

  pub seven-bytes : 7 ≤ length t
  seven-bytes =
      let on = (goes-rules x.top.count (terms_of x.top.wires)).on t x.at_rules j.rules x.at_excuses x.rules_are in
      omega (arith, head-on t x.top x.at_rules x.head_is, fifth-inside)

  pub none_last : j.excuses ≡ [] → length t ≡ x.at_excuses + 2
  none_last none = omega (arith, x.ends, fifth-inside, no-rules j.excuses (wire_terms_of x.top.wires) t (x.at_excuses + 2) x.last none fifth-is.1)

module _ (s : List ℕ) where
  -- the sheet in form two
  abbrev more : List ℕ
  more = s ++ (0 ∷ 0 ∷ [])

  more-long : length more ≡ length s + 2
  more-long = length-append s (0 ∷ 0 ∷ [])

  more-alike : (k : ℕ) → k ≤ length s → Alike k s more
  more-alike k l = record {
    long = l;
    as_long = omega (arith, more-long);
    same = λ i h. sym (get_or-append s (0 ∷ 0 ∷ []) 0 i (omega arith));
  }

  less-alike : (k : ℕ) → k ≤ length s → Alike k more s
  less-alike k l = let r = more-alike k l in record { long = r.as_long; as_long = l; same = λ i h. sym (r.same i h) }

  none_read : (n : ℕ) → excuses Two n more (length s) ≡ got [] (length s + 2)
  unfolding excuses rules
  none_read n = rw (low_count 0 (omega arith) s [])

  pub form-two : (j : Job) → read_job One s ≡ accepted j → read_job Two (s ++ (0 ∷ 0 ∷ [])) ≡ accepted j
  unfolding excuses read_job job
  form-two j ok =
      let x = sections One s j ok in
      let steps = goes-rules x.top.count (terms_of x.top.wires) in
      let in_head : x.at_rules ≤ length s = goes-head.inside s 0 x.top x.at_rules x.head_is (omega arith) in
      let in-rules : x.at_excuses ≤ length s = steps.inside s x.at_rules j.rules x.at_excuses x.rules_are in_head in
      let ends : x.at_excuses ≡ length s = omega (arith, x.ends, place_same x.excuses_are) in
      let first = goes-head.same s more 0 x.top x.at_rules (more-alike x.at_rules in_head) x.head_is in
      let then = steps.same s more x.at_rules j.rules x.at_excuses (more-alike x.at_excuses in-rules) x.rules_are in
      let last = end_read more (length s + 2) more-long in
      let none : [] ≡ j.excuses = got-inj [] j.excuses x.at_excuses x.last x.excuses_are in
      rw (first, then, ends, none_read x.top.wires, last) (ap (λ (es : List ℕ). accepted (job_of x.top j.rules es)) none ∙ ap accepted x.job_is)

  pub form-one : (j : Job) → j.excuses ≡ [] → read_job Two (s ++ (0 ∷ 0 ∷ [])) ≡ accepted j → read_job One s ≡ accepted j
  unfolding excuses read_job job
  form-one j free ok =
      let x = sections Two more j ok in
      let steps = goes-rules x.top.count (terms_of x.top.wires) in
      let ends : x.at_excuses ≡ length s = omega (arith, more-long, none_last more j ok free) in
      let on-rules : x.at_rules ≤ x.at_excuses = steps.on more x.at_rules j.rules x.at_excuses x.rules_are in
      let first = goes-head.same more s 0 x.top x.at_rules (less-alike x.at_rules (omega arith)) x.head_is in
      let then = steps.same more s x.at_rules j.rules x.at_excuses (less-alike x.at_excuses (omega arith)) x.rules_are in
      let last = end_read s x.at_excuses (sym ends) in
      rw (first, then, last) (ap (λ (es : List ℕ). accepted (job_of x.top j.rules es)) (sym free) ∙ ap accepted x.job_is)
