-- How long a job sheet is: one that is accepted is not long, and of a longer one the first bytes decide.
--     job-near           reading a job looks at no more than 7,458 bytes
--     accepted-short     an accepted sheet has at most 7,457 bytes
--     first-decide       the first 7,458 bytes decide
--     place-small        every place that a refusal tells is at most 7,458
-- Assumes nothing.
use mathlib.Core.Path.{◌≡◌, refl, sym, ap}
use mathlib.Core.Logic.{by_cases}
use mathlib.Core.List.{List, [], ◌∷◌}
use Prim.Native.Nat.{ℕ, zero, suc, ◌+◌, ◌*◌, ◌≤◌}
use native.Mathlib.Nat.{mul-le-mul}
use native.Mathlib.Decide.{dec_le}
use native.Mathlib.Omega.{arith}
use lib.ListN.{length, take}
use lib.Seq.{take_all}
use Rattle.steps.specs.declared.Refusal.{Refusal}
use Rattle.steps.specs.Step.{Step, got, refused, next}
use Rattle.steps.specs.Bytes.{count, word_count, entries, end}
use Rattle.steps.specs.Outcome.{place_of}
use Rattle.steps.proofs.Near.{Near, near-then, near-more, near-give, near-count, near-word-count, near-entries, near-end, cut-alike}
use Rattle.sheet.specs.declared.Form.{Form}
use Rattle.sheet.specs.declared.Form.TheVariants.{One, Two}
use Rattle.sheet.specs.Job.{Job, Head, accepted, rejected}
use Rattle.sheet.specs.JobSheet.{mask_of, mask, counted_mask, rules, excuses, head, job, read_job, verdict_of, terms_of, wire_terms_of, wire_limit, seen_limit, rule_limit, excuse_limit, pin_limit, longest}
use Rattle.sheet.proofs.Heads.{count-bounds, word-count-bounds, head-facts}
use Rattle.sheet.proofs.Laws.{sections}

near-mask : (n limit at : ℕ) → Near n at (λ s. mask n limit s at)
unfolding mask
near-mask n limit at =
    near-more (n + 0) n at (λ s. mask n limit s at) (omega arith)
    (near-then n 0 at (λ s. entries n limit 0 s at) (λ es q s. got (mask_of es) q) (near-entries n limit 0 at) (λ s es q g. near-give q (mask_of es)))

near-counted : (most limit at : ℕ) → Near (1 + most) at (λ s. counted_mask most limit s at)
unfolding counted_mask
near-counted most limit at =
    near-then 1 most at (λ s. count most s at) (λ n m s. mask n limit s m) (near-count most at)
    (λ s n m h. near-more n most m (λ s. mask n limit s m) (count-bounds most s at n m h).0 (near-mask n limit m))

near-rules : (n terms at : ℕ) → Near (n * (1 + terms)) at (λ s. rules n terms s at)
unfolding rules
near-rules zero terms at = near-more 0 (0 * (1 + terms)) at (λ s. rules 0 terms s at) (omega arith) (near-give at [])
near-rules (suc n) terms at =
    near-more (1 + terms + (n * (1 + terms) + 0)) (suc n * (1 + terms)) at (λ s. rules (suc n) terms s at) (omega arith)
    (near-then (1 + terms) (n * (1 + terms) + 0) at (λ s. counted_mask terms terms s at) (λ r m s. next (rules n terms s m) (λ rs q. got (r ∷ rs) q)) (near-counted terms terms at)
    (λ s r m h.
    near-then (n * (1 + terms)) 0 m (λ s. rules n terms s m) (λ rs q s. got (r ∷ rs) q) (near-rules n terms m) (λ s rs q g. near-give q (r ∷ rs))))

abbrev pub job_of : Head → (rs es : List ℕ) → Job
job_of h rs es = record { pins = h.pins; sees_a = h.sees_a; sees_b = h.sees_b; rules = rs; excuses = es }

-- ---- the whole sheet

abbrev head_of : (n a b k : ℕ) → List ℕ → Head
head_of n a b k pins = record { wires = n; pins = pins; sees_a = a; sees_b = b; count = k }

module _ (n : ℕ) (pins : List ℕ) where
  near-after-b : (a b at : ℕ) → Near 2 at (λ s. next (word_count rule_limit s at) (λ k q. got (head_of n a b k pins) q))
  near-after-b a b at =
      near-then 2 0 at (λ s. word_count rule_limit s at) (λ k q s. got (head_of n a b k pins) q) (near-word-count rule_limit at)
      (λ s k q h. near-give q (head_of n a b k pins))

  near-after-a : (a at : ℕ)
      → Near 11 at (λ s. next (counted_mask seen_limit n s at) (λ b m. next (word_count rule_limit s m) (λ k q. got (head_of n a b k pins) q)))
  near-after-a a at =
      near-then 9 2 at (λ s. counted_mask seen_limit n s at) (λ b m s. next (word_count rule_limit s m) (λ k q. got (head_of n a b k pins) q))
      (near-counted seen_limit n at)
      (λ s b m h. near-after-b a b m)

  near-after-pins : (at : ℕ)
      → Near 20 at (λ s. next (counted_mask seen_limit n s at) (λ a l. next (counted_mask seen_limit n s l) (λ b m. next (word_count rule_limit s m) (λ k q. got (head_of n a b k pins) q))))
  near-after-pins at =
      near-then 9 11 at (λ s. counted_mask seen_limit n s at)
      (λ a l s. next (counted_mask seen_limit n s l) (λ b m. next (word_count rule_limit s m) (λ k q. got (head_of n a b k pins) q)))
      (near-counted seen_limit n at)
      (λ s a l h. near-after-a a l)

pub near-head : Near 33 0 (λ s. head s 0)
unfolding head
near-head =
    near-then 1 32 0 (λ s. count wire_limit s 0)
    (λ n p s. next (entries n pin_limit 0 s p) (λ pins q. next (counted_mask seen_limit n s q) (λ a l. next (counted_mask seen_limit n s l) (λ b m. next (word_count rule_limit s m) (λ k q. got (head_of n a b k pins) q)))))
    (near-count wire_limit 0)
    (λ s n p h.
    near-then 12 20 p (λ s. entries n pin_limit 0 s p)
    (λ pins q s. next (counted_mask seen_limit n s q) (λ a l. next (counted_mask seen_limit n s l) (λ b m. next (word_count rule_limit s m) (λ k q. got (head_of n a b k pins) q))))
    (near-more n 12 p (λ s. entries n pin_limit 0 s p) (count-bounds wire_limit s 0 n p h).0 (near-entries n pin_limit 0 p))
    (λ s pins q g. near-after-pins n pins q))

-- the most bytes that the rules of a job take
rules-most : (n terms : ℕ) → n ≤ rule_limit → terms ≤ 28 → n * (1 + terms) ≤ 7424
rules-most n terms ln lt = let more : 1 + terms ≤ 29 = omega arith in mul-le-mul ln more

near-head-rules : (h : Head) (at : ℕ) → h.wires ≤ wire_limit → h.count ≤ rule_limit → Near 7424 at (λ s. rules h.count (terms_of h.wires) s at)
near-head-rules h at lw lc =
    near-more (h.count * (1 + terms_of h.wires)) 7424 at (λ s. rules h.count (terms_of h.wires) s at)
    (rules-most h.count (terms_of h.wires) lc (omega arith))
    (near-rules h.count (terms_of h.wires) at)

-- those that the excuses take
excuses_most : Form → ℕ
excuses_most One = 0
excuses_most Two = 1602

excuses-most : (n terms : ℕ) → n ≤ excuse_limit → terms ≤ 24 → n * (1 + terms) ≤ 1600
excuses-most n terms ln lt = let more : 1 + terms ≤ 25 = omega arith in mul-le-mul ln more

near-excuses : (f : Form) (n at : ℕ) → n ≤ wire_limit → Near (excuses_most f) at (λ s. excuses f n s at)
unfolding excuses excuses_most
near-excuses One n at l = near-give at []
near-excuses Two n at l =
    near-then 2 1600 at (λ s. word_count excuse_limit s at) (λ k m s. rules k (wire_terms_of n) s m) (near-word-count excuse_limit at)
    (λ s k m h.
    near-more (k * (1 + wire_terms_of n)) 1600 m (λ s. rules k (wire_terms_of n) s m)
    (excuses-most k (wire_terms_of n) (word-count-bounds excuse_limit s at k m h) (omega arith))
    (near-rules k (wire_terms_of n) m))

longest-is : (f : Form) → 33 + (7424 + excuses_most f) ≡ longest f
unfolding excuses_most
longest-is One = refl
longest-is Two = refl

pub job-near : (f : Form) → Near (longest f + 1) 0 (λ s. job f s 0)
unfolding job
job-near f =
    near-more (33 + (7424 + (excuses_most f + 1))) (longest f + 1) 0 (λ s. job f s 0) (omega (arith, longest-is f))
    (near-then 33 (7424 + (excuses_most f + 1)) 0 (λ s. head s 0)
    (λ h at s. next (rules h.count (terms_of h.wires) s at) (λ rs q. next (excuses f h.wires s q) (λ es m. next (end s m) (λ z l. got (job_of h rs es) l))))
    near-head
    (λ s h at e.
    let b = head-facts s h at e in
    near-then 7424 (excuses_most f + 1) at (λ s. rules h.count (terms_of h.wires) s at) (λ rs q s. next (excuses f h.wires s q) (λ es m. next (end s m) (λ z l. got (job_of h rs es) l)))
    (near-head-rules h at b.0 b.1)
    (λ s rs q g.
    near-then (excuses_most f) 1 q (λ s. excuses f h.wires s q) (λ es m s. next (end s m) (λ z l. got (job_of h rs es) l))
    (near-excuses f h.wires q b.0)
    (λ s es m k. near-then 1 0 m (λ s. end s m) (λ z l s. got (job_of h rs es) l) (near-end m) (λ s z l k. near-give l (job_of h rs es))))))

-- ---- what follows for whole sheets

refused-inv : (t : Step Job) (w : Refusal) → verdict_of t ≡ rejected w → t ≡ refused w
refused-inv (got j m) w h = let z : ◌≡◌ {A = ℕ} 0 1 = cc in let no : ⊥ = omega arith in absurd no
refused-inv (refused v) w h = cc

pub place-small : (f : Form) (s : List ℕ) (w : Refusal) → read_job f s ≡ rejected w → place_of w ≤ longest f + 1
unfolding read_job
place-small f s w h = omega (arith, (job-near f).faulty s w (refused-inv (job f s 0) w h))

pub accepted-short : (f : Form) (s : List ℕ) (j : Job) → read_job f s ≡ accepted j → length s ≤ longest f
accepted-short f s j ok =
    let x = sections f s j ok in
    let b = head-facts s x.top x.at_rules x.head_is in
    let to-rules : x.at_rules ≤ 33 = near-head.found s x.top x.at_rules x.head_is in
    let to-excuses : x.at_excuses ≤ x.at_rules + 7424 = (near-head-rules x.top x.at_rules b.0 b.1).found s j.rules x.at_excuses x.rules_are in
    let to_end : x.last ≤ x.at_excuses + excuses_most f = (near-excuses f x.top.wires x.at_excuses b.0).found s j.excuses x.last x.excuses_are in
    omega (arith, longest-is f, x.ends)

pub first-decide : (f : Form) (s : List ℕ) → read_job f (take (longest f + 1) s) ≡ read_job f s
unfolding read_job
first-decide f s =
    by_cases (dec_le (longest f + 1) (length s))
    (λ l. ap verdict_of (sym ((job-near f).alike (longest f + 1) s (take (longest f + 1) s) (cut-alike (longest f + 1) s l) (omega arith))))
    (λ g. ap (read_job f) (take_all (longest f + 1) s (omega arith)))
