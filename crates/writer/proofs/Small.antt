-- The numbers of the writer's outcomes.
--     Small, judge-small      a refusal has a code from 1 to 6, a section up to 4 and a place up to 256
--     code-fine               an outcome of code 0 is that of a job that was judged fine
--     sheet-small             a sheet that is written is short
-- Assumes nothing.
use mathlib.Core.Path.{◌≡◌, refl}
use mathlib.Core.Bool.{Bool, true, false}
use mathlib.Core.List.{List, [], ◌∷◌}
use Prim.Native.Nat.{ℕ, ◌+◌, ◌≤◌, ◌<◌}
use native.Mathlib.Omega.{arith}
use lib.Dec.{ltb, leb}
use lib.ListN.{length}
use Rattle.std.specs.Prelude.{Ok, Err}
use Rattle.steps.specs.declared.Outcome.{Outcome}
use Rattle.steps.specs.Step.{pick}
use Rattle.sheet.specs.Job.{Job}
use Rattle.sheet.specs.JobSheet.{wire_limit, seen_limit, rule_limit, terms_of}
use Rattle.writer.specs.declared.Section.{Section}
use Rattle.writer.specs.declared.Section.TheVariants.{Pins, SeesA, SeesB, Rules}
use Rattle.writer.specs.declared.Amiss.{Amiss}
use Rattle.writer.specs.declared.Amiss.TheVariants.{TooMany, NotRising, TooHigh, NoRoom}
use Rattle.writer.specs.JobWritten.{members, job_sheet}
use Rattle.writer.specs.Writing.{Judged, number_of, refusal_of, ◌then◌, within, pins_rise, all_below, judge_pins, judge_set, judge_seen, judge_rule, judge_each, judge_rules, judge_room, judge, outcome_of, write_outcome}
use Rattle.writer.proofs.Sets.{members-few}
use Rattle.writer.proofs.Judging.{within-fine, judge-fine}
use Rattle.writer.proofs.Stores.{rules-short, sheet-long}

-- a code from 1 to 6, a section up to 4 and a place up to 256; nothing is written, and no rule is named
pub record Numbers (o : Outcome) : Type 0 where
  pub some : 0 < o.code
  pub code : o.code ≤ 6
  pub section : o.sheet ≤ 4
  pub place : o.place ≤ 256
  pub written : o.written ≡ 0
  pub rule : o.rule ≡ 0

abbrev pub Small : Judged → Type 0
Small (Ok u) = Unit {0}
Small (Err a) = Numbers (refusal_of a)

section-small : (section : Section) → number_of section ≤ 4
section-small Pins = omega arith
section-small SeesA = omega arith
section-small SeesB = omega arith
section-small Rules = omega arith

-- what is amiss at a place
small-many : (section : Section) (place : ℕ) → place ≤ 256 → Numbers (refusal_of (TooMany section place))
small-many section place p = record { some = omega arith; code = omega arith; section = section-small section; place = p; written = refl; rule = refl }

small-high : (section : Section) (place : ℕ) → place ≤ 256 → Numbers (refusal_of (TooHigh section place))
small-high section place p = record { some = omega arith; code = omega arith; section = section-small section; place = p; written = refl; rule = refl }

small-rising : (place : ℕ) → place ≤ 256 → Numbers (refusal_of (NotRising place))
small-rising place p = record { some = omega arith; code = omega arith; section = omega arith; place = p; written = refl; rule = refl }

small-pick : (b : Bool) (g : Judged) (a : Amiss) → Small g → Numbers (refusal_of a) → Small (pick b g (Err a))
small-pick true g a h n = h
small-pick false g a h n = n

-- the second part counts only where the first is fine
small-then : (a b : Judged) → Small a → (a ≡ Ok tt → Small b) → Small (a then b)
small-then (Ok u) b h f = f refl
small-then (Err a) b h f = h

small-within : (most : ℕ) (section : Section) (place n : ℕ) → place ≤ 256 → Small (within most section place n)
small-within most section place n p = small-pick (leb n most) (Ok tt) _ tt (small-many section place p)

small-pins : (least i : ℕ) (ps : List ℕ) → i + length ps ≤ 256 → Small (pins_rise least i ps)
unfolding pins_rise
small-pins least i [] l = tt
small-pins least i (p ∷ ps) l =
    small-pick (leb least p) (pins_rise (p + 1) (i + 1) ps) _ (small-pins (p + 1) (i + 1) ps (omega arith)) (small-rising i (omega arith))

small-below : (limit : ℕ) (section : Section) (place : ℕ → ℕ) (i : ℕ) (es : List ℕ) → ((k : ℕ) → k < i + length es → place k ≤ 256) → Small (all_below limit section place i es)
unfolding all_below
small-below limit section place i [] f = tt
small-below limit section place i (e ∷ es) f =
    small-pick (ltb e limit) (all_below limit section place (i + 1) es) _ (small-below limit section place (i + 1) es (λ k l. f k (omega arith)))
    (small-high section (place i) (f i (omega arith)))

small-set : (most limit : ℕ) (section : Section) (first : ℕ) (place : ℕ → ℕ) (m : ℕ) → first ≤ 256 → ((k : ℕ) → k < 32 → place k ≤ 256)
    → Small (judge_set most limit section first place m)
unfolding judge_set
small-set most limit section first place m p f =
    small-then (within most section first (length (members m))) (all_below limit section place 0 (members m)) (small-within most section first (length (members m)) p)
    (λ fine. small-below limit section place 0 (members m) (λ k l. f k (omega (arith, members-few 32 0 m))))

small-each : (terms number : ℕ) (rs : List ℕ) → number + length rs ≤ 256 → Small (judge_each terms number rs)
unfolding judge_each
small-each terms number [] l = tt
small-each terms number (r ∷ rs) l =
    small-then (judge_rule terms number r) (judge_each terms (number + 1) rs)
    (small-set terms terms Rules number (λ i. number) r (omega arith) (λ k h. omega arith))
    (λ fine. small-each terms (number + 1) rs (omega arith))

small-seen : (wires : ℕ) (section : Section) (m : ℕ) → Small (judge_seen wires section m)
small-seen wires section m = small-set seen_limit wires section 0 (λ i. i) m (omega arith) (λ k h. omega arith)

small-all-pins : (pins : List ℕ) → Small (judge_pins pins)
unfolding judge_pins
small-all-pins pins =
    small-then (within wire_limit Pins 0 (length pins)) (pins_rise 0 0 pins) (small-within wire_limit Pins 0 (length pins) (omega arith))
    (λ fine. small-pins 0 0 pins (omega (arith, within-fine wire_limit Pins 0 (length pins) fine)))

small-rules : (terms : ℕ) (rs : List ℕ) → Small (judge_rules terms rs)
unfolding judge_rules
small-rules terms rs =
    small-then (within rule_limit Rules 0 (length rs)) (judge_each terms 0 rs) (small-within rule_limit Rules 0 (length rs) (omega arith))
    (λ fine. small-each terms 0 rs (omega (arith, within-fine rule_limit Rules 0 (length rs) fine)))

small-room : (room long : ℕ) → Small (judge_room room long)
small-room room long =
    small-pick (leb long room) (Ok tt) NoRoom tt (record { some = omega arith; code = omega arith; section = omega arith; place = omega arith; written = refl; rule = refl })

pub judge-small : (j : Job) (room : ℕ) → Small (judge j room)
unfolding judge
judge-small j room =
    let n = length j.pins in
    small-then (judge_pins j.pins) _ (small-all-pins j.pins)
    (λ f₁. small-then (judge_seen n SeesA j.sees_a) _ (small-seen n SeesA j.sees_a)
    (λ f₂. small-then (judge_seen n SeesB j.sees_b) _ (small-seen n SeesB j.sees_b)
    (λ f₃. small-then (judge_rules (terms_of n) j.rules) _ (small-rules (terms_of n) j.rules)
    (λ f₄. small-room room (length (job_sheet j))))))

told : (g : Judged) (long : ℕ) → Small g → (outcome_of g long).code ≡ 0 → g ≡ Ok tt
told (Ok u) long h e = refl
told (Err a) long h e = absurd (omega (arith, h.some))

pub code-fine : (j : Job) (room : ℕ) → (write_outcome j room).code ≡ 0 → judge j room ≡ Ok tt
unfolding write_outcome
code-fine j room e = told (judge j room) (length (job_sheet j)) (judge-small j room) e

pub sheet-small : (j : Job) (room : ℕ) → judge j room ≡ Ok tt → length (job_sheet j) < 65536
sheet-small j room h =
    let few = judge-fine j room h in
    omega (arith, few.0, few.1, sheet-long j, members-few 32 0 j.sees_a, members-few 32 0 j.sees_b, rules-short j.rules)
