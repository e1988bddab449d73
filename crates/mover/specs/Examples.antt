-- Sheets that are moved, by computation: the papers' J1 to J4 and the two speed wires, each refusal, and what a call leaves in a lent buffer. Assumes nothing.
use Rattle.std.specs.Prelude.{◌≡◌, refl, List, [], ◌∷◌, ◌++◌, map, ℕ}
use Rattle.steps.specs.Bytes.{byte, word, within, count, word_count, rising, entry, entries, end}
use Rattle.steps.specs.Outcome.{success, refusal, Ending}
use Rattle.sheet.specs.declared.Form.TheVariants.{One, Two}
use Rattle.sheet.specs.JobSheet.{mask_of, mask, counted_mask, rules, excuses, head, job, read_job}
use Rattle.sheet.specs.Examples.{j1, j2, j3, j4, speed}
use Rattle.mover.specs.Moved.{Moved, moved, unmoved, front, excuses_at, moved_to, moving}

-- J1 to J4; then J1 with a byte left over, and nothing at all
pub ones : List (List ℕ)
ones = j1 ∷ j2 ∷ j3 ∷ j4 ∷ (j1 ++ (9 ∷ [])) ∷ [] ∷ []

pub in_two : List Moved
in_two =
    moved (j1 ++ (0 ∷ 0 ∷ []))
    ∷ moved (j2 ++ (0 ∷ 0 ∷ []))
    ∷ moved (j3 ++ (0 ∷ 0 ∷ []))
    ∷ moved (j4 ++ (0 ∷ 0 ∷ []))
    ∷ unmoved (refusal 5 1 5)
    ∷ unmoved (refusal 1 1 0)
    ∷ []

pub to-two-so : map (moved_to Two) ones ≡ in_two
unfolding j1 j2 j3 j4 ones in_two byte word within count word_count rising entry entries mask_of mask counted_mask rules excuses end head job read_job moved_to
to-two-so = refl

-- the two speed wires, of 18 bytes, and no excuse; the excuse of both high; the empty one; one that never holds; then an excuse and a byte left over, an
-- excuse that is not there, and the sheet of form one
pub twos : List (List ℕ)
twos =
    (speed ++ (0 ∷ 0 ∷ []))
    ∷ (speed ++ (1 ∷ 0 ∷ 2 ∷ 0 ∷ 2 ∷ []))
    ∷ (speed ++ (1 ∷ 0 ∷ 0 ∷ []))
    ∷ (speed ++ (1 ∷ 0 ∷ 2 ∷ 0 ∷ 1 ∷ []))
    ∷ (speed ++ (1 ∷ 0 ∷ 0 ∷ 7 ∷ []))
    ∷ (speed ++ (1 ∷ 0 ∷ []))
    ∷ speed
    ∷ []

pub in_one : List Moved
in_one =
    moved speed
    ∷ unmoved (refusal 16 1 18)
    ∷ unmoved (refusal 16 1 18)
    ∷ unmoved (refusal 16 1 18)
    ∷ unmoved (refusal 5 1 21)
    ∷ unmoved (refusal 1 1 20)
    ∷ unmoved (refusal 1 1 18)
    ∷ []

pub to-one-so : map (moved_to One) twos ≡ in_one
unfolding speed twos in_one byte word within count word_count rising entry entries mask_of mask counted_mask rules excuses end head job read_job front excuses_at moved_to
to-one-so = refl

-- J4 has 6 bytes. Buffers one byte longer than it needs, and one byte shorter, both ways
pub endings : List Ending
endings =
    moving Two j4 (7 ∷ 7 ∷ 7 ∷ 7 ∷ 7 ∷ 7 ∷ 7 ∷ 7 ∷ 7 ∷ [])
    ∷ moving Two j4 (7 ∷ 7 ∷ 7 ∷ 7 ∷ 7 ∷ 7 ∷ 7 ∷ [])
    ∷ moving One (j4 ++ (0 ∷ 0 ∷ [])) (7 ∷ 7 ∷ 7 ∷ 7 ∷ 7 ∷ 7 ∷ 7 ∷ [])
    ∷ moving One (j4 ++ (0 ∷ 0 ∷ [])) (7 ∷ 7 ∷ 7 ∷ 7 ∷ 7 ∷ [])
    ∷ []

pub ended : List Ending
ended =
    record { outcome = success 0 8; exit = 0 ∷ 0 ∷ 0 ∷ 1 ∷ 0 ∷ 0 ∷ 0 ∷ 0 ∷ 7 ∷ [] }
    ∷ record { outcome = refusal 6 0 0; exit = 7 ∷ 7 ∷ 7 ∷ 7 ∷ 7 ∷ 7 ∷ 7 ∷ [] }
    ∷ record { outcome = success 0 6; exit = 0 ∷ 0 ∷ 0 ∷ 1 ∷ 0 ∷ 0 ∷ 7 ∷ [] }
    ∷ record { outcome = refusal 6 0 0; exit = 7 ∷ 7 ∷ 7 ∷ 7 ∷ 7 ∷ [] }
    ∷ []

pub ended_so : endings ≡ ended
unfolding j4 endings ended byte word within count word_count rising entry entries mask_of mask counted_mask rules excuses end head job read_job front excuses_at moved_to moving
ended_so = refl
