-- Judging a description, part by part: what stops it, and how it goes on.
--     pins-.., fewer, set-.., each-..         the parts of `judge_pins`, `judge_set`, `judge_each`
--     pin_steps, rule_steps                   those that judging one by one stands on
--     pins-few, rules-few, judge-fine         what a part, or the whole, says where it is fine
--     fine-.., stored-exit, amiss-..          the outcome, and what the buffer holds
-- Assumes nothing.
use mathlib.Core.Path.{◌≡◌, refl, sym, ap, ◌∙◌}
use mathlib.Core.Bool.{Bool, true, false}
use mathlib.Core.List.{List, ◌++◌}
use Prim.Native.Nat.{ℕ, ◌+◌, ◌-◌, ◌/◌, ◌^◌, ◌≤◌, ◌<◌}
use native.Mathlib.Nat.{div-le_self}
use native.Mathlib.Numerals.{add-one}
use native.Mathlib.Omega.{arith}
use borrow.Author.Tests.{le-leb, lt-leb, leb-true}
use lib.Count.{ones}
use lib.Dec.{leb}
use lib.ListN.{length, get_or, drop, drop_of_length-le}
use lib.Seq.{sets, drop-cons}
use Rattle.std.specs.Prelude.{Ok, Err}
use Rattle.steps.specs.Outcome.{success}
use Rattle.steps.specs.Step.{pick}
use Rattle.sheet.specs.Job.{Job}
use Rattle.sheet.specs.JobSheet.{wire_limit, rule_limit, terms_of}
use Rattle.steps.proofs.Runs.{at_front}
use Rattle.writer.specs.declared.Section.{Section}
use Rattle.writer.specs.declared.Section.TheVariants.{Pins, SeesA, SeesB, Rules}
use Rattle.writer.specs.declared.Amiss.{Amiss}
use Rattle.writer.specs.declared.Amiss.TheVariants.{NotRising, TooHigh}
use Rattle.writer.specs.JobWritten.{members, job_sheet}
use Rattle.writer.specs.Writing.{Judged, refusal_of, ◌then◌, within, pins_rise, all_below, judge_pins, judge_set, judge_seen, judge_rule, judge_each, judge_rules, judge, write_outcome, write_exit}
use Rattle.writer.proofs.Sets.{members-length, ones-high, below_all, below-first}

-- ---- pins

module _ (pins : List ℕ) (least i : ℕ) where
  pub pins-turn : (p : ℕ) → p ≡ get_or pins i 0 → i < length pins → least ≤ p → pins_rise least i (drop i pins) ≡ pins_rise (p + 1) (i + 1) (drop (i + 1) pins)
  unfolding pins_rise
  pins-turn p e l h = rw (e, drop-cons pins i 0 l, le-leb least (get_or pins i 0) (omega arith), add-one i)

  pub pins-fault : i < length pins → get_or pins i 0 < least → Err (NotRising i) ≡ pins_rise least i (drop i pins)
  unfolding pins_rise
  pins-fault l h = rw (drop-cons pins i 0 l, lt-leb _ _ h)

  pub pins-end : length pins ≤ i → Ok tt ≡ pins_rise least i (drop i pins)
  unfolding pins_rise
  pins-end l = rw (drop_of_length-le pins l)

pub ruleset pin_steps = (pins-turn, pins-fault, pins-end)

-- ---- sets

-- no more of a set's entries are at or above a limit than it has
pub fewer : (limit m : ℕ) → m < 2 ^ 32 → length (members (m / 2 ^ limit)) ≤ length (members m)
fewer limit m h =
    let small : m / 2 ^ limit < 2 ^ 32 = omega (arith, div-le_self m (2 ^ limit)) in
    omega (arith, members-length 32 0 m h, members-length 32 0 (m / 2 ^ limit) small, ones-high limit m)

-- the entries of a set whose count n is within its limit
module _ (most limit : ℕ) (section : Section) (first : ℕ) (place : ℕ → ℕ) (m n : ℕ) (many : n ≡ length (members m)) (e : Ok tt ≡ within most section first n) (h : m < 2 ^ 32) where
  from-none : 0 + limit ≡ limit
  from-none = omega arith

  set-go : judge_set most limit section first place m ≡ all_below (0 + limit) section place 0 (members m)
  unfolding judge_set
  set-go = ap (λ x. x then all_below limit section place 0 (members m)) (sym (e ∙ ap (within most section first) many)) ∙ ap (λ (l : ℕ). all_below l section place 0 (members m)) (sym from-none)

  pub set-fine : m / 2 ^ limit ≡ 0 → Ok tt ≡ judge_set most limit section first place m
  set-fine z = sym (set-go ∙ below_all section place 32 0 limit 0 m h z)

  pub set-high : (k : ℕ) → k ≡ length (members (m / 2 ^ limit)) → 0 < m / 2 ^ limit → Err (TooHigh section (place (n - k))) ≡ judge_set most limit section first place m
  set-high k q l =
      let small : m / 2 ^ limit < 2 ^ 32 = omega (arith, div-le_self m (2 ^ limit)) in
      let index : 0 + (ones m - ones (m / 2 ^ limit)) ≡ n - k = omega (arith, members-length 32 0 m h, members-length 32 0 (m / 2 ^ limit) small) in
      sym (set-go ∙ below-first section place 32 0 limit 0 m h l ∙ ap (λ (i : ℕ). Err (TooHigh section (place i))) index)

-- ---- rules

module _ (terms : ℕ) (rules : List ℕ) (number : ℕ) where
  pub each-next : number < length rules → judge_each terms number (drop number rules) ≡ (judge_rule terms number (get_or rules number 0) then judge_each terms (number + 1) (drop (number + 1) rules))
  unfolding judge_each
  each-next l = rw (drop-cons rules number 0 l, add-one number)

  pub each-end : length rules ≤ number → Ok tt ≡ judge_each terms number (drop number rules)
  unfolding judge_each
  each-end l = rw (drop_of_length-le rules l)

pub ruleset rule_steps = (each-next, each-end)

-- ---- the whole

pub then-fine : (a b : Judged) → (a then b) ≡ Ok tt → (a ≡ Ok tt) × (b ≡ Ok tt)
then-fine (Ok u) b h = (refl, h)
then-fine (Err a) b h = absurd (cc)

pub picked-fine : (b : Bool) (x : Judged) (a : Amiss) → pick b x (Err a) ≡ Ok tt → (b ≡ true) × (x ≡ Ok tt)
picked-fine true x a h = (refl, h)
picked-fine false x a h = absurd (cc)

pub within-fine : (most : ℕ) (section : Section) (place n : ℕ) → within most section place n ≡ Ok tt → n ≤ most
within-fine most section place n h = leb-true n most (picked-fine (leb n most) _ _ h).0

pub pins-few : (pins : List ℕ) → judge_pins pins ≡ Ok tt → length pins ≤ wire_limit
unfolding judge_pins
pins-few pins h = within-fine wire_limit Pins 0 (length pins) (then-fine _ _ h).0

pub rules-few : (terms : ℕ) (rules : List ℕ) → judge_rules terms rules ≡ Ok tt → length rules ≤ rule_limit
unfolding judge_rules
rules-few terms rules h = within-fine rule_limit Rules 0 (length rules) (then-fine _ _ h).0

-- ---- what the writer answers and leaves

pub judge-fine : (j : Job) (room : ℕ) → judge j room ≡ Ok tt → (length j.pins ≤ wire_limit) × (length j.rules ≤ rule_limit) × (length (job_sheet j) ≤ room)
unfolding judge
judge-fine j room h =
    let h₁ = then-fine (judge_pins j.pins) _ h in
    let h₂ = then-fine (judge_seen (length j.pins) SeesA j.sees_a) _ h₁.1 in
    let h₃ = then-fine (judge_seen (length j.pins) SeesB j.sees_b) _ h₂.1 in
    let h₄ = then-fine (judge_rules (terms_of (length j.pins)) j.rules) _ h₃.1 in
    (pins-few j.pins h₁.0, rules-few _ j.rules h₄.0, leb-true _ _ (picked-fine (leb (length (job_sheet j)) room) _ _ h₄.1).0)

module _ (j : Job) (buf : List ℕ) (fine : judge j (length buf) ≡ Ok tt) where
  pub fine-outcome : write_outcome j (length buf) ≡ success 0 (length (job_sheet j))
  unfolding write_outcome
  fine-outcome = rw fine

  pub fine-exit : write_exit j buf ≡ job_sheet j ++ drop (length (job_sheet j)) buf
  unfolding write_exit
  fine-exit = rw fine

  pub stored-exit : (after : List ℕ) → after ≡ sets buf 0 (job_sheet j) → after ≡ write_exit j buf
  stored-exit after g =
      g ∙ at_front buf (job_sheet j) (omega (arith, (judge-fine j (length buf) fine).2)) ∙ sym fine-exit

module _ (j : Job) (buf : List ℕ) (a : Amiss) (amiss : judge j (length buf) ≡ Err a) where
  pub amiss-outcome : write_outcome j (length buf) ≡ refusal_of a
  unfolding write_outcome
  amiss-outcome = rw amiss

  pub amiss-exit : write_exit j buf ≡ buf
  unfolding write_exit
  amiss-exit = rw amiss
