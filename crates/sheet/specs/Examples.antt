-- Document 01's sheets, and sheets of form two, by computation: each of the list with what it comes to. Assumes nothing.
use Rattle.std.specs.Prelude.{◌≡◌, refl, List, [], ◌∷◌, ◌++◌, map, ℕ}
use Rattle.steps.specs.declared.Refusal.TheVariants.{Ends, TooMany, NotRising, TooHigh, LeftOver}
use Rattle.sheet.specs.declared.Form.TheVariants.{One, Two}
use Rattle.sheet.specs.Job.{Verdict, accepted, rejected}
use Rattle.steps.specs.Bytes.{byte, word, within, count, word_count, rising, entry, entries, end}
use Rattle.sheet.specs.JobSheet.{mask_of, mask, counted_mask, rules, excuses, head, job, read_job}

-- J1 to J4
unfoldable pub j1 : List ℕ
j1 = 0 ∷ 0 ∷ 0 ∷ 0 ∷ 0 ∷ []

unfoldable pub j2 : List ℕ
j2 = 1 ∷ 4 ∷ 1 ∷ 0 ∷ 1 ∷ 0 ∷ 2 ∷ 0 ∷ 2 ∷ 2 ∷ 4 ∷ 2 ∷ 3 ∷ 5 ∷ []

unfoldable pub j3 : List ℕ
j3 =
    2 ∷ 4 ∷ 7 ∷ 1 ∷ 0 ∷ 1 ∷ 1 ∷ 6 ∷ 0 ∷ 4 ∷ 0 ∷ 3 ∷ 4 ∷ 6 ∷ 4 ∷ 1 ∷ 2 ∷ 4 ∷ 6 ∷ 3 ∷ 0 ∷ 2 ∷ 5 ∷ 3 ∷ 0 ∷ 2 ∷ 7 ∷ 3 ∷ 1 ∷ 3 ∷ 5 ∷ 3 ∷ 1 ∷ 3 ∷ 7 ∷ []

unfoldable pub j4 : List ℕ
j4 = 0 ∷ 0 ∷ 0 ∷ 1 ∷ 0 ∷ 0 ∷ []

pub sheets : List (List ℕ)
sheets =
    j1 ∷ j2 ∷ j3 ∷ j4 ∷ [] ∷ (0x0d ∷ []) ∷ (0 ∷ 0 ∷ 0 ∷ 0 ∷ 0 ∷ 9 ∷ []) ∷ (0 ∷ 0 ∷ 0 ∷ 1 ∷ 1 ∷ []) ∷ (0 ∷ 0 ∷ 0 ∷ 255 ∷ []) ∷ (2 ∷ 7 ∷ 7 ∷ []) ∷ (1 ∷ 7 ∷ 1 ∷ 1 ∷ []) ∷ (1 ∷ 7 ∷ 9 ∷ []) ∷ []

pub verdicts : List Verdict
verdicts =
    accepted (record { pins = []; sees_a = 0; sees_b = 0; rules = []; excuses = [] })
    ∷ accepted (record { pins = 4 ∷ []; sees_a = 1; sees_b = 1; rules = 20 ∷ 40 ∷ []; excuses = [] })
    ∷ accepted (record { pins = 4 ∷ 7 ∷ []; sees_a = 1; sees_b = 2; rules = 89 ∷ 86 ∷ 37 ∷ 133 ∷ 42 ∷ 138 ∷ []; excuses = [] })
    ∷ accepted (record { pins = []; sees_a = 0; sees_b = 0; rules = 0 ∷ []; excuses = [] })
    ∷ rejected (Ends 0)
    ∷ rejected (TooMany 0)
    ∷ rejected (LeftOver 5)
    ∷ rejected (TooMany 3)
    ∷ rejected (Ends 4)
    ∷ rejected (NotRising 2)
    ∷ rejected (TooHigh 3)
    ∷ rejected (TooMany 2)
    ∷ []

pub read-so : map (read_job One) sheets ≡ verdicts
unfolding j1 j2 j3 j4 sheets verdicts byte word within count word_count rising entry entries mask_of mask counted_mask rules excuses end head job read_job
read-so = refl

-- two speed wires, which are never both high: A sees the first and must be 1 where it is, B the second likewise, and A and B are never both 1
unfoldable pub speed : List ℕ
speed = 2 ∷ 2 ∷ 3 ∷ 1 ∷ 0 ∷ 1 ∷ 1 ∷ 3 ∷ 0 ∷ 2 ∷ 1 ∷ 4 ∷ 2 ∷ 3 ∷ 6 ∷ 2 ∷ 5 ∷ 7 ∷ []

-- in form two: no excuse, the excuse of both wires high, the empty one, one with a term and its negation; then the faults of the fifth section, and the
-- sheet without it
pub sheets-two : List (List ℕ)
sheets-two =
    (speed ++ (0 ∷ 0 ∷ []))
    ∷ (speed ++ (1 ∷ 0 ∷ 2 ∷ 0 ∷ 2 ∷ []))
    ∷ (speed ++ (2 ∷ 0 ∷ 0 ∷ 2 ∷ 0 ∷ 1 ∷ []))
    ∷ (speed ++ (1 ∷ []))
    ∷ (speed ++ (65 ∷ 0 ∷ []))
    ∷ (speed ++ (1 ∷ 0 ∷ 5 ∷ []))
    ∷ (speed ++ (1 ∷ 0 ∷ 1 ∷ 4 ∷ []))
    ∷ (speed ++ (1 ∷ 0 ∷ 2 ∷ 2 ∷ 2 ∷ []))
    ∷ (speed ++ (0 ∷ 0 ∷ 0 ∷ []))
    ∷ speed
    ∷ []

pub verdicts-two : List Verdict
verdicts-two =
    accepted (record { pins = 2 ∷ 3 ∷ []; sees_a = 1; sees_b = 2; rules = 18 ∷ 72 ∷ 160 ∷ []; excuses = [] })
    ∷ accepted (record { pins = 2 ∷ 3 ∷ []; sees_a = 1; sees_b = 2; rules = 18 ∷ 72 ∷ 160 ∷ []; excuses = 5 ∷ [] })
    ∷ accepted (record { pins = 2 ∷ 3 ∷ []; sees_a = 1; sees_b = 2; rules = 18 ∷ 72 ∷ 160 ∷ []; excuses = 0 ∷ 3 ∷ [] })
    ∷ rejected (Ends 19)
    ∷ rejected (TooMany 18)
    ∷ rejected (TooMany 20)
    ∷ rejected (TooHigh 21)
    ∷ rejected (NotRising 22)
    ∷ rejected (LeftOver 20)
    ∷ rejected (Ends 18)
    ∷ []

pub read-two-so : map (read_job Two) sheets-two ≡ verdicts-two
unfolding speed sheets-two verdicts-two byte word within count word_count rising entry entries mask_of mask counted_mask rules excuses end head job read_job
read-two-so = refl
