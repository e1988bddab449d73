-- Moving a job sheet to the other form, for every string of bytes and every lent buffer (document 02, request 3).
--     excuses_at     the place after the rules
--     moved_to       the sheet in the form named, or the refusal
--     moving        how a call ends
-- The source form's 1–5, then 16, then 6. Assumes nothing: these are definitions.
use Rattle.std.specs.Prelude.{List, [], ◌∷◌, ◌++◌, ℕ, leb, length, take}
use Rattle.steps.specs.declared.Outcome.{Outcome}
use Rattle.steps.specs.Step.{Step, got, refused, Reading, ◌>>=◌, pick}
use Rattle.steps.specs.Outcome.{place_of, refusal, refused_job, Ending, refusing, writing}
use Rattle.sheet.specs.declared.Form.{Form}
use Rattle.sheet.specs.declared.Form.TheVariants.{One, Two}
use Rattle.sheet.specs.Job.{Verdict, accepted, rejected}
use Rattle.sheet.specs.JobSheet.{terms_of, head, rules, read_job}
use Rattle.answer.specs.Written.{two}

-- the sections that both forms have, down to the rules
unfoldable pub front : Reading (List ℕ)
front = do
  h ← head
  rules h.count (terms_of h.wires)

-- the place that a step tells
abbrev pub told_by : {A : Type 0} → Step A → ℕ
told_by (got a at) = at
told_by (refused w) = place_of w

-- the place after the rules: in form two, of the excuse count's first byte
unfoldable pub excuses_at : List ℕ → ℕ
excuses_at s = told_by (front s 0)

-- what moving a sheet comes to: the moved sheet, or the outcome of a refusal
pub data Moved : Type 0 where
  moved : List ℕ → Moved
  unmoved : Outcome → Moved

-- to form two: an excuse count of 0 is added
abbrev pub to_two : Verdict → List ℕ → Moved
to_two (accepted j) s = moved (s ++ two 0)
to_two (rejected w) s = unmoved (refused_job 1 w)

-- and back: it is taken off. 16: excuses would be lost, at the excuse count (sheet 1)
abbrev pub without : (excuses : List ℕ) → List ℕ → Moved
without [] s = moved (take (excuses_at s) s)
without (e ∷ es) s = unmoved (refusal 16 1 (excuses_at s))

abbrev pub to_one : Verdict → List ℕ → Moved
to_one (accepted j) s = without j.excuses s
to_one (rejected w) s = unmoved (refused_job 1 w)

-- to the form named, from the other
abbrev pub other : Form → Form
other One = Two
other Two = One

unfoldable pub moved_to : Form → List ℕ → Moved
moved_to One s = to_one (read_job Two s) s
moved_to Two s = to_two (read_job One s) s

-- 0: the moved sheet is written. 6: buffer shorter than it (sheet 0)
abbrev pub put : (sheet entry : List ℕ) → Ending
put t entry = pick (leb (length t) (length entry)) (writing 0 t entry) (refusing (refusal 6 0 0) entry)

abbrev pub ending : Moved → (entry : List ℕ) → Ending
ending (moved t) entry = put t entry
ending (unmoved o) entry = refusing o entry

unfoldable pub moving : Form → (s entry : List ℕ) → Ending
moving f s entry = ending (moved_to f s) entry
