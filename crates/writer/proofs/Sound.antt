-- What a job has with which nothing is amiss, and which has no excuses.
--     IsSet, Rules, Sound         a set, rules, and a job within their limits
--     fine-sound, sound-fine      a job that was judged fine is one, and such a job is judged fine, where there is room
-- Assumes nothing.
use mathlib.Core.Path.{◌≡◌, refl}
use mathlib.Core.List.{List, [], ◌∷◌}
use Prim.Native.Nat.{ℕ, zero, suc, ◌+◌, ◌^◌, ◌≤◌, ◌<◌}
use native.Mathlib.Omega.{arith}
use borrow.Author.Tests.{le-leb}
use lib.ListN.{length, get_or}
use Rattle.std.specs.Prelude.{Ok}
use Rattle.sheet.specs.Job.{Job}
use Rattle.sheet.specs.JobSheet.{wire_limit, seen_limit, pin_limit, rule_limit, terms_of}
use Rattle.writer.specs.declared.Section.{Section}
use Rattle.writer.specs.declared.Section.TheVariants.{Pins, SeesA, SeesB}
use Rattle.writer.specs.declared.Section.TheVariants.{Rules as of_rules}
use Rattle.writer.specs.JobWritten.{members, job_sheet, Describes}
use Rattle.writer.specs.Writing.{within, judge_pins, judge_set, judge_seen, judge_rule, judge_each, judge_rules, judge}
use Rattle.writer.proofs.Judging.{then-fine, within-fine}
use Rattle.writer.proofs.Masks.{Rising, members-rise, below-fine, fine-below, pins-fine, fine-pins}

-- a set of 32 digits, of so many entries at most, each below the limit
pub record IsSet (most limit m : ℕ) : Type 0 where
  pub small : m < 2 ^ 32
  pub few : length (members m) ≤ most
  pub rise : Rising 0 limit (members m)

abbrev pub Rules : (terms : ℕ) → List ℕ → Type 0
Rules terms [] = Unit {0}
Rules terms (r ∷ rs) = IsSet terms terms r × Rules terms rs

pub record Sound (j : Job) : Type 0 where
  pub few : length j.pins ≤ wire_limit
  pub pins : Rising 0 pin_limit j.pins
  pub sees_a : IsSet seen_limit (length j.pins) j.sees_a
  pub sees_b : IsSet seen_limit (length j.pins) j.sees_b
  pub most : length j.rules ≤ rule_limit
  pub rules : Rules (terms_of (length j.pins)) j.rules
  pub excuses : j.excuses ≡ []

pub rules-lt : (terms : ℕ) (rs : List ℕ) → Rules terms rs → (i : ℕ) → i < length rs → get_or rs i 0 < 2 ^ 32
rules-lt terms [] ok i h = absurd (omega arith)
rules-lt terms (r ∷ rs) ok zero h = ok.0.small
rules-lt terms (r ∷ rs) ok (suc i) h = rules-lt terms rs ok.1 i (omega arith)

-- ---- judged fine

fine-within : (most : ℕ) (section : Section) (place n : ℕ) → n ≤ most → within most section place n ≡ Ok tt
fine-within most section place n l = rw (le-leb n most l)

module _ (most limit : ℕ) (section : Section) (first : ℕ) (place : ℕ → ℕ) (m : ℕ) where
  set-fine : m < 2 ^ 32 → judge_set most limit section first place m ≡ Ok tt → IsSet most limit m
  unfolding judge_set
  set-fine l h =
      let t = then-fine (within most section first (length (members m))) _ h in
      record {
        small = l;
        few = within-fine most section first (length (members m)) t.0;
        rise = below-fine limit section place 0 0 32 (members m) (members-rise m) t.1;
      }

  fine-set : IsSet most limit m → judge_set most limit section first place m ≡ Ok tt
  unfolding judge_set
  fine-set ok = rw (fine-within most section first (length (members m)) ok.few) (fine-below limit section place 0 0 (members m) ok.rise)

each-fine : (terms number : ℕ) (rs : List ℕ) → ((i : ℕ) → i < length rs → get_or rs i 0 < 2 ^ 32) → judge_each terms number rs ≡ Ok tt → Rules terms rs
unfolding judge_each
each-fine terms number [] b h = tt
each-fine terms number (r ∷ rs) b h =
    let t = then-fine (judge_rule terms number r) _ h in
    (set-fine terms terms of_rules number (λ i. number) r (b 0 (omega arith)) t.0, each-fine terms (number + 1) rs (λ i l. b (suc i) (omega arith)) t.1)

fine-each : (terms number : ℕ) (rs : List ℕ) → Rules terms rs → judge_each terms number rs ≡ Ok tt
unfolding judge_each
fine-each terms number [] ok = refl
fine-each terms number (r ∷ rs) ok = rw (fine-set terms terms of_rules number (λ i. number) r ok.0) (fine-each terms (number + 1) rs ok.1)

pub fine-sound : (j : Job) (room : ℕ) → Describes j → judge j room ≡ Ok tt → Sound j
unfolding judge judge_pins judge_rules
fine-sound j room d h =
    let n = length j.pins in
    let t₁ = then-fine (judge_pins j.pins) _ h in
    let t₂ = then-fine (judge_seen n SeesA j.sees_a) _ t₁.1 in
    let t₃ = then-fine (judge_seen n SeesB j.sees_b) _ t₂.1 in
    let t₄ = then-fine (judge_rules (terms_of n) j.rules) _ t₃.1 in
    let p = then-fine (within wire_limit Pins 0 n) _ t₁.0 in
    let r = then-fine (within rule_limit of_rules 0 (length j.rules)) _ t₄.0 in
    record {
      few = within-fine wire_limit Pins 0 n p.0;
      pins = pins-fine 0 0 j.pins d.pins p.1;
      sees_a = set-fine seen_limit n SeesA 0 (λ i. i) j.sees_a d.sees_a t₂.0;
      sees_b = set-fine seen_limit n SeesB 0 (λ i. i) j.sees_b d.sees_b t₃.0;
      most = within-fine rule_limit of_rules 0 (length j.rules) r.0;
      rules = each-fine (terms_of n) 0 j.rules d.rules r.1;
      excuses = d.excuses;
    }

module _ (j : Job) (ok : Sound j) where
  fine-pins-all : judge_pins j.pins ≡ Ok tt
  unfolding judge_pins
  fine-pins-all = rw (fine-within wire_limit Pins 0 (length j.pins) ok.few) (fine-pins 0 0 j.pins ok.pins)

  fine-seen : (section : Section) (m : ℕ) → IsSet seen_limit (length j.pins) m → judge_seen (length j.pins) section m ≡ Ok tt
  fine-seen section m set = fine-set seen_limit (length j.pins) section 0 (λ i. i) m set

  fine-rules : judge_rules (terms_of (length j.pins)) j.rules ≡ Ok tt
  unfolding judge_rules
  fine-rules = rw (fine-within rule_limit of_rules 0 (length j.rules) ok.most) (fine-each (terms_of (length j.pins)) 0 j.rules ok.rules)

  pub sound-fine : (room : ℕ) → length (job_sheet j) ≤ room → judge j room ≡ Ok tt
  unfolding judge
  sound-fine room l = rw (fine-pins-all, fine-seen SeesA j.sees_a ok.sees_a, fine-seen SeesB j.sees_b ok.sees_b, fine-rules, le-leb (length (job_sheet j)) room l)
