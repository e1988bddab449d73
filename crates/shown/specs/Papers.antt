-- The sheets that document 01 marks with P ("Sheets on both sides of the line"), and what it says of each; and the board with two speed wires of document
-- 02's request 2, without its excuse and with it.
--     J1 to J7, J6', equal      job sheets, byte by byte
--     speed_two, speed_excused, speed_free      the board with two speed wires, in form two without an excuse, with its own and with the empty one
--     by        a walk's entry: claim, combination
--     papers    the list
-- Assumes nothing: these are definitions.
use Rattle.std.specs.Prelude.{List, [], ◌∷◌, ◌++◌, ℕ}
use Rattle.steps.specs.Outcome.{success, refusal, rule_broken}
use Rattle.sheet.specs.declared.Form.TheVariants.{One, Two}
use Rattle.sheet.specs.Examples.{speed}
use Rattle.answer.specs.Answer.{Entry}
use Rattle.answer.specs.Written.{tables_sheet, walk_sheet}
use Rattle.shown.specs.Cases.{Case, solves, walks, stands, judges, widens}

-- no wires and no rules
abbrev pub J1 : List ℕ
J1 = 0 ∷ 0 ∷ 0 ∷ 0 ∷ 0 ∷ []

-- 000, Example 1: one wire, which both cells see, and A and B differ
abbrev pub J2 : List ℕ
J2 = 1 ∷ 4 ∷ 1 ∷ 0 ∷ 1 ∷ 0 ∷ 2 ∷ 0 ∷ 2 ∷ 2 ∷ 4 ∷ 2 ∷ 3 ∷ 5 ∷ []

-- 001, Fig. 1: A sees the first wire and B the second
abbrev pub J3 : List ℕ
J3 =
    2 ∷ 4 ∷ 7 ∷ 1 ∷ 0 ∷ 1 ∷ 1 ∷ 6 ∷ 0 ∷ 4 ∷ 0 ∷ 3 ∷ 4 ∷ 6 ∷ 4 ∷ 1 ∷ 2 ∷ 4 ∷ 6 ∷ 3 ∷ 0 ∷ 2 ∷ 5 ∷ 3 ∷ 0 ∷ 2 ∷ 7 ∷ 3 ∷ 1 ∷ 3 ∷ 5 ∷ 3 ∷ 1 ∷ 3 ∷ 7 ∷ []

-- the empty rule alone
abbrev pub J4 : List ℕ
J4 = 0 ∷ 0 ∷ 0 ∷ 1 ∷ 0 ∷ 0 ∷ []

-- no wires, rules {A, B} and {not A, not B}
abbrev pub J5 : List ℕ
J5 = 0 ∷ 0 ∷ 0 ∷ 2 ∷ 0 ∷ 2 ∷ 0 ∷ 2 ∷ 2 ∷ 1 ∷ 3 ∷ []

-- one wire, B must equal it, A sees nothing and B the wire
abbrev pub J6 : List ℕ
J6 = 1 ∷ 0 ∷ 0 ∷ 1 ∷ 0 ∷ 2 ∷ 0 ∷ 2 ∷ 1 ∷ 4 ∷ 2 ∷ 0 ∷ 5 ∷ []

-- J6 with A seeing the wire too
abbrev pub J6' : List ℕ
J6' = 1 ∷ 0 ∷ 1 ∷ 0 ∷ 1 ∷ 0 ∷ 2 ∷ 0 ∷ 2 ∷ 1 ∷ 4 ∷ 2 ∷ 0 ∷ 5 ∷ []

-- J6 with B seeing nothing
abbrev pub J7 : List ℕ
J7 = 1 ∷ 0 ∷ 0 ∷ 0 ∷ 2 ∷ 0 ∷ 2 ∷ 1 ∷ 4 ∷ 2 ∷ 0 ∷ 5 ∷ []

-- two wires, A sees the first, B the second; A equals B exactly when the wires are equal
abbrev pub equal : List ℕ
equal =
    2 ∷ 0 ∷ 1 ∷ 1 ∷ 0 ∷ 1 ∷ 1 ∷ 8 ∷ 0
    ∷ 4 ∷ 0 ∷ 2 ∷ 4 ∷ 7
    ∷ 4 ∷ 0 ∷ 2 ∷ 5 ∷ 6
    ∷ 4 ∷ 1 ∷ 2 ∷ 4 ∷ 6
    ∷ 4 ∷ 1 ∷ 2 ∷ 5 ∷ 7
    ∷ 4 ∷ 0 ∷ 3 ∷ 4 ∷ 6
    ∷ 4 ∷ 0 ∷ 3 ∷ 5 ∷ 7
    ∷ 4 ∷ 1 ∷ 3 ∷ 4 ∷ 7
    ∷ 4 ∷ 1 ∷ 3 ∷ 5 ∷ 6
    ∷ []

-- the board with two speed wires, in form two without an excuse
abbrev pub speed_two : List ℕ
speed_two = speed ++ (0 ∷ 0 ∷ [])

-- with the excuse of both wires at 1
abbrev pub speed_excused : List ℕ
speed_excused = speed ++ (1 ∷ 0 ∷ 2 ∷ 0 ∷ 2 ∷ [])

-- the same with the empty excuse, which excuses all
abbrev pub speed_free : List ℕ
speed_free = speed ++ (1 ∷ 0 ∷ 0 ∷ [])

abbrev pub by : (claim combination : ℕ) → Entry
by c a = record { says = c; by = a }

unfoldable pub papers : List Case
papers =
    -- J1: answer 01 00 00 01 00 00 00 00
    solves One J1 (1 ∷ 0 ∷ 0 ∷ 1 ∷ 0 ∷ 0 ∷ 0 ∷ 0 ∷ [])
    ∷ judges One J1 (1 ∷ 0 ∷ 0 ∷ 1 ∷ 0 ∷ 0 ∷ 0 ∷ 0 ∷ []) (success 20 0)
    -- J2: A 00, B 11
    ∷ solves One J2 (tables_sheet (0 ∷ 0 ∷ []) (1 ∷ 1 ∷ []))
    -- J3: no pair, and a walk that stands
    ∷ walks One J3
    ∷ stands One J3 (by 0 2 ∷ by 7 3 ∷ by 3 3 ∷ by 6 2 ∷ by 1 0 ∷ by 5 0 ∷ [])
    -- J4: a walk that stands
    ∷ stands One J4 (by 0 0 ∷ by 2 0 ∷ by 1 0 ∷ by 2 0 ∷ [])
    -- J5: A 0, B 1, and a walk that gets 13
    ∷ solves One J5 (tables_sheet (0 ∷ []) (1 ∷ []))
    ∷ judges One J5 (walk_sheet (by 0 0 ∷ by 3 0 ∷ [])) (refusal 13 2 0)
    -- J6: A 0, B 01
    ∷ solves One J6 (tables_sheet (0 ∷ []) (0 ∷ 1 ∷ []))
    -- J7: a walk that stands
    ∷ stands One J7 (by 2 1 ∷ by 1 1 ∷ by 3 0 ∷ by 1 0 ∷ [])
    -- J6 widened to A seeing the wire too: A 00, B 01
    ∷ widens One J6 J6' (tables_sheet (0 ∷ []) (0 ∷ 1 ∷ [])) (tables_sheet (0 ∷ 0 ∷ []) (0 ∷ 1 ∷ []))
    -- A equals B exactly when the wires are equal: A 01, B 01
    ∷ solves One equal (tables_sheet (0 ∷ 1 ∷ []) (0 ∷ 1 ∷ []))
    -- a walk of the one entry (0,0) for J1: code 12, sheet 2, place 0
    ∷ judges One J1 (walk_sheet (by 0 0 ∷ [])) (refusal 12 2 0)
    -- the speed wires: no pair in either form, and a walk that stands
    ∷ walks One speed
    ∷ stands One speed (by 3 3 ∷ by 6 3 ∷ by 2 3 ∷ by 6 3 ∷ [])
    ∷ walks Two speed_two
    ∷ stands Two speed_two (by 3 3 ∷ by 6 3 ∷ by 2 3 ∷ by 6 3 ∷ [])
    -- with the excuse A 01, B 01, though both are 1 where both wires are; of the walk no step holds
    ∷ solves Two speed_excused (tables_sheet (0 ∷ 1 ∷ []) (0 ∷ 1 ∷ []))
    ∷ judges Two speed_excused (tables_sheet (0 ∷ 1 ∷ []) (0 ∷ 1 ∷ [])) (success 20 0)
    ∷ judges Two speed_excused (walk_sheet (by 3 3 ∷ by 6 3 ∷ by 2 3 ∷ by 6 3 ∷ [])) (refusal 12 2 0)
    ∷ judges Two speed_two (tables_sheet (0 ∷ 1 ∷ []) (0 ∷ 1 ∷ [])) (rule_broken 3 2)
    -- tables of 0: where the first wire alone is 1, rule 0 is broken; with that excused, rule 1 where the second alone is; with both excused, rules 0 and 1
    -- where both wires are
    ∷ judges One speed (tables_sheet (0 ∷ 0 ∷ []) (0 ∷ 0 ∷ [])) (rule_broken 1 0)
    ∷ judges Two (speed ++ (1 ∷ 0 ∷ 2 ∷ 0 ∷ 3 ∷ [])) (tables_sheet (0 ∷ 0 ∷ []) (0 ∷ 0 ∷ [])) (rule_broken 2 1)
    ∷ judges Two (speed ++ (2 ∷ 0 ∷ 2 ∷ 0 ∷ 3 ∷ 2 ∷ 1 ∷ 2 ∷ [])) (tables_sheet (0 ∷ 0 ∷ []) (0 ∷ 0 ∷ [])) (rule_broken 3 0)
    -- J4's only rule has no term: broken at once
    ∷ judges One J4 (tables_sheet (0 ∷ []) (0 ∷ [])) (rule_broken 0 0)
    -- the empty excuse: any tables fit, and the first are of 0. Its job asks no more
    ∷ solves Two speed_free (tables_sheet (0 ∷ 0 ∷ []) (0 ∷ 0 ∷ []))
    ∷ widens Two speed_excused speed_free (tables_sheet (0 ∷ 1 ∷ []) (0 ∷ 1 ∷ [])) (tables_sheet (0 ∷ 1 ∷ []) (0 ∷ 1 ∷ []))
    ∷ []
