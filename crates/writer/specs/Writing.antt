-- What the writer answers and leaves, for every description and every lent buffer (document 02, request 1). The sheet is of form one.
--     judge          the first thing amiss with a description, in section order, or that nothing is
--     refusal_of     the outcome that tells what is amiss
--     write_outcome   the outcome
--     write_exit      what the lent buffer holds afterwards
-- The sheet number of a refusal is the section, 1 to 4; its place is the entry's number there from 0.
-- Assumes nothing: these are definitions.
use Rattle.std.specs.Prelude.{List, [], ◌∷◌, ◌++◌, ℕ, ◌+◌, ltb, leb, length, drop, Result, Ok, Err}
use Rattle.steps.specs.declared.Outcome.{Outcome}
use Rattle.steps.specs.Outcome.{success, refusal}
use Rattle.steps.specs.Step.{pick}
use Rattle.sheet.specs.Job.{Job}
use Rattle.sheet.specs.JobSheet.{wire_limit, seen_limit, rule_limit, terms_of}
use Rattle.writer.specs.declared.Section.{Section}
use Rattle.writer.specs.declared.Section.TheVariants.{Pins, SeesA, SeesB, Rules}
use Rattle.writer.specs.declared.Amiss.{Amiss}
use Rattle.writer.specs.declared.Amiss.TheVariants.{TooMany, NotRising, TooHigh, NoRoom}
use Rattle.writer.specs.JobWritten.{members, job_sheet}

-- the sheet's sections, numbered from 1
abbrev pub number_of : Section → ℕ
number_of Pins = 1
number_of SeesA = 2
number_of SeesB = 3
number_of Rules = 4

-- 2: count above its limit. 3: pin not above the one before. 4: wire position not below n, or term not below 2n+4. 6: no room for the sheet.
abbrev pub refusal_of : Amiss → Outcome
refusal_of (TooMany section place) = refusal 2 (number_of section) place
refusal_of (NotRising place) = refusal 3 (number_of Pins) place
refusal_of (TooHigh section place) = refusal 4 (number_of section) place
refusal_of NoRoom = refusal 6 0 0

-- nothing is amiss, or the first thing that is
abbrev pub Judged : Type 0
Judged = Result (Unit {0}) Amiss

-- the first thing amiss decides
infixr 20 ◌then◌
abbrev pub ◌then◌ : Judged → Judged → Judged
◌then◌ (Ok u) g = g
◌then◌ (Err a) g = Err a

-- a count of n, against its limit
abbrev pub within : (most : ℕ) (section : Section) (place n : ℕ) → Judged
within most section place n = pick (leb n most) (Ok tt) (Err (TooMany section place))

-- pins, from the i-th on, where the next may be no lower than `least`
unfoldable pub pins_rise : (least i : ℕ) → List ℕ → Judged
pins_rise least i [] = Ok tt
pins_rise least i (p ∷ ps) = pick (leb least p) (pins_rise (p + 1) (i + 1) ps) (Err (NotRising i))

-- the entries of a set, from the i-th on, in rising order, against their limit
unfoldable pub all_below : (limit : ℕ) (section : Section) (place : ℕ → ℕ) (i : ℕ) → List ℕ → Judged
all_below limit section place i [] = Ok tt
all_below limit section place i (e ∷ es) = pick (ltb e limit) (all_below limit section place (i + 1) es) (Err (TooHigh section (place i)))

-- Each count comes just before its own entries.
unfoldable pub judge_pins : List ℕ → Judged
judge_pins pins = within wire_limit Pins 0 (length pins) then pins_rise 0 0 pins

-- a set, of at most `most` entries below the limit: its count has the place `first`, its i-th entry the place `place i`
unfoldable pub judge_set : (most limit : ℕ) (section : Section) (first : ℕ) (place : ℕ → ℕ) (m : ℕ) → Judged
judge_set most limit section first place m = within most section first (length (members m)) then all_below limit section place 0 (members m)

abbrev pub judge_seen : (wires : ℕ) (section : Section) (seen : ℕ) → Judged
judge_seen wires section seen = judge_set seen_limit wires section 0 (λ i. i) seen

-- within a rule the place is the rule's number
abbrev pub judge_rule : (terms number rule : ℕ) → Judged
judge_rule terms number rule = judge_set terms terms Rules number (λ i. number) rule

unfoldable pub judge_each : (terms number : ℕ) → List ℕ → Judged
judge_each terms number [] = Ok tt
judge_each terms number (r ∷ rs) = judge_rule terms number r then judge_each terms (number + 1) rs

unfoldable pub judge_rules : (terms : ℕ) → List ℕ → Judged
judge_rules terms rs = within rule_limit Rules 0 (length rs) then judge_each terms 0 rs

-- whether the buffer is no shorter than the sheet
abbrev pub judge_room : (room long : ℕ) → Judged
judge_room room long = pick (leb long room) (Ok tt) (Err NoRoom)

unfoldable pub judge : Job → (room : ℕ) → Judged
judge j room =
    judge_pins j.pins
    then judge_seen (length j.pins) SeesA j.sees_a
    then judge_seen (length j.pins) SeesB j.sees_b
    then judge_rules (terms_of (length j.pins)) j.rules
    then judge_room room (length (job_sheet j))

-- Success is code 0 with the bytes written; a refusal writes nothing, and a success leaves what is beyond the sheet.
abbrev pub outcome_of : Judged → (long : ℕ) → Outcome
outcome_of (Ok u) long = success 0 long
outcome_of (Err a) long = refusal_of a

abbrev pub exit_of : Judged → (sheet buf : List ℕ) → List ℕ
exit_of (Ok u) sheet buf = sheet ++ drop (length sheet) buf
exit_of (Err a) sheet buf = buf

unfoldable pub write_outcome : Job → (room : ℕ) → Outcome
write_outcome j room = outcome_of (judge j room) (length (job_sheet j))

unfoldable pub write_exit : Job → (buf : List ℕ) → List ℕ
write_exit j buf = exit_of (judge j (length buf)) (job_sheet j) buf
