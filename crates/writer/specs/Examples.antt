-- Descriptions by computation: the papers' jobs J1 to J4 with their sheets, and a description for each refusal with its outcome. Assumes nothing.
use Rattle.std.specs.Prelude.{◌≡◌, refl, List, [], ◌∷◌, map}
use Rattle.steps.specs.declared.Outcome.{Outcome}
use Rattle.steps.specs.Outcome.{success, refusal}
use Rattle.sheet.specs.Job.{Job}
use Rattle.sheet.specs.Examples.{j1, j2, j3, j4}
use Rattle.writer.specs.JobWritten.{members_from, rules_bytes, job_sheet, described}
use Rattle.writer.specs.Writing.{pins_rise, all_below, judge_pins, judge_set, judge_each, judge_rules, judge, write_outcome}

pub jobs : List Job
jobs =
    described [] 0 0 []
    ∷ described (4 ∷ []) 1 1 (20 ∷ 40 ∷ [])
    ∷ described (4 ∷ 7 ∷ []) 1 2 (89 ∷ 86 ∷ 37 ∷ 133 ∷ 42 ∷ 138 ∷ [])
    ∷ described [] 0 0 (0 ∷ [])
    ∷ []

pub written-so : map job_sheet jobs ≡ j1 ∷ j2 ∷ j3 ∷ j4 ∷ []
unfolding jobs j1 j2 j3 j4 members_from rules_bytes job_sheet
written-so = refl

-- 13 pins; the pin 7 twice; 9 wires seen; wires 0, 5 and 9 seen of a board with two; wire 1 seen of a board with one; without wires, a rule of 5 terms;
-- the term 4; and nothing amiss
pub amiss : List Job
amiss =
    described (0 ∷ 1 ∷ 2 ∷ 3 ∷ 4 ∷ 5 ∷ 6 ∷ 7 ∷ 8 ∷ 9 ∷ 10 ∷ 11 ∷ 12 ∷ []) 0 0 []
    ∷ described (4 ∷ 7 ∷ 7 ∷ []) 0 0 []
    ∷ described (4 ∷ 7 ∷ []) 511 0 []
    ∷ described (4 ∷ 7 ∷ []) 545 0 []
    ∷ described (4 ∷ []) 0 2 []
    ∷ described [] 0 0 (15 ∷ 31 ∷ [])
    ∷ described [] 0 0 (15 ∷ 0 ∷ 16 ∷ [])
    ∷ described [] 0 0 (15 ∷ [])
    ∷ []

pub outcomes : List Outcome
outcomes =
    refusal 2 1 0
    ∷ refusal 3 1 2
    ∷ refusal 2 2 0
    ∷ refusal 4 2 1
    ∷ refusal 4 3 0
    ∷ refusal 2 4 1
    ∷ refusal 4 4 2
    ∷ refusal 6 0 0
    ∷ []

-- with a buffer of 9 bytes, one too few for the last; with 10 it is written
pub refused-so : map (λ j. write_outcome j 9) amiss ≡ outcomes
unfolding amiss outcomes members_from rules_bytes job_sheet pins_rise all_below judge_pins judge_set judge_each judge_rules judge write_outcome
refused-so = refl

pub just_so : write_outcome (described [] 0 0 (15 ∷ [])) 10 ≡ success 0 10
unfolding members_from rules_bytes job_sheet pins_rise all_below judge_pins judge_set judge_each judge_rules judge write_outcome
just_so = refl
