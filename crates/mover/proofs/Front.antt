-- The sections that both forms have, and the place after them.
--     told-end, told-fault     in form one, the sheet's end where it is accepted, else the place that its refusal tells
--     count-there    in form two, where it is accepted, the excuse count's
--     none-long, none_after    and without excuses two bytes of 0 follow it
-- Assumes nothing.
use mathlib.Core.Path.{◌≡◌, refl, sym, ap, ◌∙◌}
use mathlib.Core.Bool.{Bool, true, false}
use mathlib.Core.List.{List, [], ◌∷◌, ◌++◌}
use Prim.Native.Nat.{ℕ, suc, ◌+◌, ◌*◌, ◌≤◌}
use native.Mathlib.Numerals.{add-one}
use native.Mathlib.Omega.{arith}
use borrow.Author.Tests.{ltb-false}
use lib.Dec.{ltb}
use lib.ListN.{length, get_or, take, drop, take-append-drop, drop_of_length-le}
use lib.Seq.{drop-cons}
use Rattle.steps.specs.declared.Refusal.{Refusal}
use Rattle.steps.specs.declared.Refusal.TheVariants.{LeftOver}
use Rattle.steps.specs.Step.{Step, got, refused, next, pick}
use Rattle.steps.specs.Bytes.{byte, word, word_count, end}
use Rattle.steps.specs.Outcome.{place_of}
use Rattle.steps.proofs.Entries.{next-inv, got-inj, byte-is, byte_next}
use Rattle.sheet.specs.declared.Form.TheVariants.{One, Two}
use Rattle.sheet.specs.Job.{Job, Head, Verdict, accepted, rejected}
use Rattle.sheet.specs.JobSheet.{terms_of, excuse_limit, rules, excuses, head, job, read_job, verdict_of}
use Rattle.sheet.proofs.Heads.{word-count-is}
use Rattle.sheet.proofs.Laws.{sections}
use Rattle.sheet.proofs.Length.{job_of}
use Rattle.sheet.proofs.Forms.{goes-rules, goes-head, fifth-is, fifth-inside, none_last}
use Rattle.answer.specs.Written.{two}
use Rattle.mover.specs.Moved.{front, told_by, excuses_at}

-- ---- form one

module _ (s : List ℕ) where
  abbrev one_told : Verdict → ℕ
  one_told (accepted j) = length s
  one_told (rejected w) = place_of w

  abbrev end_of : Head → (rs : List ℕ) → Step ℕ → Step Job
  end_of h rs x = next x (λ z n. got (job_of h rs []) n)

  at-end : (h : Head) (rs : List ℕ) (q : ℕ) → q ≤ length s → (b : Bool) → ltb q (length s) ≡ b
      → q ≡ one_told (verdict_of (end_of h rs (pick b (refused (LeftOver q)) (got 0 q))))
  at-end h rs q l true e = refl
  at-end h rs q l false e = omega (arith, ltb-false q (length s) e)

  abbrev rest : Head → ℕ → Step Job
  rest h p = next (rules h.count (terms_of h.wires) s p) (λ rs q. end_of h rs (end s q))

  at_rules : (h : Head) (p : ℕ) → p ≤ length s → (x : Step (List ℕ)) → rules h.count (terms_of h.wires) s p ≡ x
      → told_by x ≡ one_told (verdict_of (next x (λ rs q. end_of h rs (end s q))))
  unfolding end
  at_rules h p l (got rs q) e = at-end h rs q ((goes-rules h.count (terms_of h.wires)).inside s p rs q e l) (ltb q (length s)) refl
  at_rules h p l (refused w) e = refl

  at_head : (x : Step Head) → head s 0 ≡ x
      → told_by (next x (λ h p. rules h.count (terms_of h.wires) s p)) ≡ one_told (verdict_of (next x rest))
  at_head (got h p) e = at_rules h p (goes-head.inside s 0 h p e (omega arith)) (rules h.count (terms_of h.wires) s p) refl
  at_head (refused w) e = refl

  told-one : excuses_at s ≡ one_told (read_job One s)
  unfolding excuses_at front read_job job excuses
  told-one = at_head (head s 0) refl

  pub told-end : (j : Job) → read_job One s ≡ accepted j → length s ≡ excuses_at s
  told-end j e = sym (told-one ∙ ap one_told e)

  pub told-fault : (w : Refusal) (place : ℕ) → read_job One s ≡ rejected w → place ≡ place_of w → place ≡ excuses_at s
  told-fault w place e p = p ∙ sym (told-one ∙ ap one_told e)

-- ---- form two

word-zero : (s : List ℕ) (at m : ℕ) → word s at ≡ got 0 m → (get_or s at 0 ≡ 0) × (get_or s (at + 1) 0 ≡ 0)
unfolding word
word-zero s at m h =
    let i = next-inv (byte s at) _ 0 m h in
    let j = next-inv (byte s i.1) _ 0 m i.3 in
    let sum : i.0 + 256 * j.0 ≡ 0 = got-inj _ _ _ m j.3 in
    let high : j.0 ≡ get_or s (at + 1) 0 = byte-is s i.1 j.0 j.1 j.2 ∙ ap (λ (k : ℕ). get_or s k 0) (byte_next s at i.0 i.1 i.2) in
    (omega (arith, byte-is s at i.0 i.1 i.2), omega arith)

module _ (t : List ℕ) (j : Job) (ok : read_job Two t ≡ accepted j) where
  at-is : excuses_at t ≡ (sections Two t j ok).at_excuses
  unfolding excuses_at front
  at-is = let x = sections Two t j ok in rw (x.head_is, x.rules_are)

  pub count-there : word_count excuse_limit t (excuses_at t) ≡ got (length j.excuses) (excuses_at t + 2)
  count-there = rw at-is (fifth-is t j ok).0

  pub inside : excuses_at t + 2 ≤ length t
  inside = rw at-is (fifth-inside t j ok)

  module _ (none : j.excuses ≡ []) where
    pub none-long : length t ≡ excuses_at t + 2
    none-long = rw at-is (none_last t j ok none)

    rest-is : drop (excuses_at t) t ≡ two 0
    rest-is =
        let zero-read : word_count excuse_limit t (excuses_at t) ≡ got 0 (excuses_at t + 2) = count-there ∙ ap (λ (es : List ℕ). got (length es) (excuses_at t + 2)) none in
        let bytes = word-zero t (excuses_at t) _ (word-count-is excuse_limit t (excuses_at t) 0 _ zero-read) in
        let over : length t ≤ suc (excuses_at t + 1) = omega (arith, none-long) in
        drop-cons t (excuses_at t) 0 (omega (arith, none-long))
        ∙ (λ i. bytes.0 i ∷ drop (sym (add-one (excuses_at t)) i) t)
        ∙ ap (λ (l : List ℕ). 0 ∷ l) (drop-cons t (excuses_at t + 1) 0 (omega (arith, none-long)))
        ∙ (λ i. 0 ∷ bytes.1 i ∷ drop_of_length-le t over i)

    pub none_after : t ≡ take (excuses_at t) t ++ two 0
    none_after = sym (take-append-drop (excuses_at t) t) ∙ ap (λ (l : List ℕ). take (excuses_at t) t ++ l) rest-is
