-- The job sheet as it is written, in form one (document 01, "Job sheet"; document 02, request 1).
--     members       the entries of a set, rising
--     job_sheet      the sheet of a job
--     Describes     the jobs that a description in bytes and masks of 32 digits can give: none has excuses
-- Assumes nothing: these are definitions.
use Rattle.std.specs.Prelude.{◌≡◌, List, [], ◌∷◌, ◌++◌, ℕ, zero, suc, ◌+◌, ◌/◌, ◌%◌, ◌^◌, ◌<◌, length, get_or}
use Rattle.sheet.specs.Job.{Job}
use Rattle.answer.specs.Written.{two, Bytes}

-- an entry p before those above it, where the set's digit at p is 1; where it is 0, those alone
abbrev pub before : (digit p : ℕ) → List ℕ → List ℕ
before zero p es = es
before (suc d) p es = p ∷ es

-- the entries from p on of a set whose digits from p on are those of m, so many digits being looked at
unfoldable pub members_from : (digits p m : ℕ) → List ℕ
members_from zero p m = []
members_from (suc k) p m = before (m % 2) p (members_from k (p + 1) (m / 2))

-- the entries of a set, rising. A mask has 32 digits
abbrev pub members : ℕ → List ℕ
members m = members_from 32 0 m

-- a count of one byte, and the entries
abbrev pub counted : List ℕ → List ℕ
counted es = length es ∷ es

unfoldable pub rules_bytes : List ℕ → List ℕ
rules_bytes [] = []
rules_bytes (r ∷ rs) = counted (members r) ++ rules_bytes rs

-- Sections in order: pins, wires seen by A, by B, rules. The rules' count has two bytes, low byte first.
unfoldable pub job_sheet : Job → List ℕ
job_sheet j =
    counted j.pins ++ counted (members j.sees_a) ++ counted (members j.sees_b) ++ two (length j.rules) ++ rules_bytes j.rules

-- A description as a job. The writer stays with form one, which has no excuses.
abbrev pub described : (pins : List ℕ) (sees_a sees_b : ℕ) (rules : List ℕ) → Job
described pins a b rules = record { pins = pins; sees_a = a; sees_b = b; rules = rules; excuses = [] }

-- pins are bytes, sets have 32 digits, and there are no excuses
pub record Describes (j : Job) : Type 0 where
  pub pins : Bytes j.pins
  pub sees_a : j.sees_a < 2 ^ 32
  pub sees_b : j.sees_b < 2 ^ 32
  pub rules : (i : ℕ) → i < length j.rules → get_or j.rules i 0 < 2 ^ 32
  pub excuses : j.excuses ≡ []
