-- The job sheet (document 01, "Job sheet"; document 02, request 2), section by section, left to right, and what the reader answers.
--     wire_limit, seen_limit, pin_limit, rule_limit, excuse_limit, terms_of, wire_terms_of, longest     the limits, which stand here alone
--     read_job        what a sheet comes to
--     read_outcome    the reader's outcome, for every string of bytes
-- Assumes nothing: these are definitions.
use Rattle.std.specs.Prelude.{ℕ, zero, suc, ◌+◌, ◌*◌, ◌^◌, List, [], ◌∷◌}
use Rattle.steps.specs.declared.Outcome.{Outcome}
use Rattle.steps.specs.Step.{Step, got, refused, Reading, ◌>>=◌, give}
use Rattle.steps.specs.Bytes.{count, word_count, entries, end}
use Rattle.steps.specs.Outcome.{success, refused_job}
use Rattle.sheet.specs.declared.Form.{Form}
use Rattle.sheet.specs.declared.Form.TheVariants.{One, Two}
use Rattle.sheet.specs.Job.{Job, Head, Verdict, accepted, rejected}

-- the limits
abbrev pub wire_limit : ℕ
wire_limit = 12

abbrev pub seen_limit : ℕ
seen_limit = 8

-- pin numbers are 0 to 255
abbrev pub pin_limit : ℕ
pin_limit = 256

abbrev pub rule_limit : ℕ
rule_limit = 256

abbrev pub excuse_limit : ℕ
excuse_limit = 64

-- the terms of a job with n wires: two for each wire and each cell
abbrev pub terms_of : ℕ → ℕ
terms_of n = 2 * n + 4

-- those of its wires alone
abbrev pub wire_terms_of : ℕ → ℕ
wire_terms_of n = 2 * n

-- The longest sheet has 7,457 bytes in form one, and 9,059 in form two.
abbrev pub longest : Form → ℕ
longest One = 7457
longest Two = 9059

-- entries as a set, one bit each
unfoldable pub mask_of : List ℕ → ℕ
mask_of [] = 0
mask_of (e ∷ es) = 2 ^ e + mask_of es

unfoldable pub mask : (n limit : ℕ) → Reading ℕ
mask n limit = do
  es ← entries n limit 0
  give (mask_of es)

-- a set after its count
unfoldable pub counted_mask : (most limit : ℕ) → Reading ℕ
counted_mask most limit = do
  n ← count most
  mask n limit

-- n rules, or n excuses, each the set of its terms
unfoldable pub rules : (n terms : ℕ) → Reading (List ℕ)
rules zero terms = give []
rules (suc n) terms = do
  r ← counted_mask terms terms
  rs ← rules n terms
  give (r ∷ rs)

-- the sections down to the count of rules, in order
unfoldable pub head : Reading Head
head = do
  n ← count wire_limit
  pins ← entries n pin_limit 0
  a ← counted_mask seen_limit n
  b ← counted_mask seen_limit n
  k ← word_count rule_limit
  give (record { wires = n; pins = pins; sees_a = a; sees_b = b; count = k })

-- the fifth section, which form two has: a two-byte count, 0 to 64, then each excuse
unfoldable pub excuses : Form → (wires : ℕ) → Reading (List ℕ)
excuses One n = give []
excuses Two n = do
  k ← word_count excuse_limit
  rules k (wire_terms_of n)

-- the whole sheet
unfoldable pub job : Form → Reading Job
job f = do
  h ← head
  rs ← rules h.count (terms_of h.wires)
  es ← excuses f h.wires
  z ← end
  give (record { pins = h.pins; sees_a = h.sees_a; sees_b = h.sees_b; rules = rs; excuses = es })

abbrev pub verdict_of : Step Job → Verdict
verdict_of (got j at) = accepted j
verdict_of (refused w) = rejected w

-- what a sheet comes to
unfoldable pub read_job : Form → List ℕ → Verdict
read_job f s = verdict_of (job f s 0)

-- 0: reader: sheet accepted. Sheet 1 is the job.
abbrev pub outcome_of : Verdict → Outcome
outcome_of (accepted j) = success 0 0
outcome_of (rejected w) = refused_job 1 w

unfoldable pub read_outcome : Form → List ℕ → Outcome
read_outcome f s = outcome_of (read_job f s)
