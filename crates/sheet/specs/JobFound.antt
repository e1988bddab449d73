-- What the reader answers of the definitions' answers, and what it leaves in the lent masks: the rules, and after them the excuses. Assumes nothing: these are definitions.
use Rattle.std.specs.Prelude.{ℕ, zero, suc, List, [], ◌∷◌, ◌++◌, length, Result, Ok, Err}
use Rattle.sheet.specs.declared.Form.{Form}
use Rattle.sheet.specs.declared.Form.TheVariants.{One, Two}
use Rattle.sheet.specs.declared.JobHead.{JobHead}
use Rattle.steps.specs.declared.Refusal.{Refusal}
use Rattle.steps.specs.Step.{Step, got, refused, Reading, ◌>>=◌, give}
use Rattle.sheet.specs.Job.{Job, Head, Verdict, accepted, rejected}
use Rattle.steps.specs.Bytes.{entries, word_count}
use Rattle.sheet.specs.JobSheet.{counted_mask, rules, head, terms_of, wire_terms_of, pin_limit, excuse_limit}

-- n pins, of which nothing is kept
unfoldable pub pins_pass : (n : ℕ) → Reading ℕ
pins_pass n = do
  es ← entries n pin_limit 0
  give n

-- n rules, or n excuses, which are kept in the lent masks
unfoldable pub rules_pass : (n terms : ℕ) → Reading ℕ
rules_pass n terms = do
  rs ← rules n terms
  give n

-- the excuses, which are kept there after the rules: their number
unfoldable pub excuses_pass : Form → (wires : ℕ) → Reading ℕ
excuses_pass One n = give 0
excuses_pass Two n = do
  k ← word_count excuse_limit
  rules_pass k (wire_terms_of n)

-- k rules of a board of n wires, and then the excuses: the number of these
unfoldable pub terms_pass : Form → (n k : ℕ) → Reading ℕ
terms_pass f n k = do
  z ← rules_pass k (terms_of n)
  excuses_pass f n

-- a job in numbers. The pins stay in the sheet, from place 1 on
abbrev pub job_head : Job → JobHead
job_head j = record { wires = length j.pins; sees_a = j.sees_a; sees_b = j.sees_b; rules = length j.rules; excuses = length j.excuses; pins_at = 1 }

abbrev pub as_job : Verdict → Result JobHead Refusal
as_job (accepted j) = Ok (job_head j)
as_job (rejected w) = Err w

abbrev pub cons_of : Step ℕ → (ℕ → List ℕ) → List ℕ
cons_of (got r after) f = r ∷ f after
cons_of (refused w) f = []

-- the rules, or excuses, before the first fault, of n from a place on: what is stored
unfoldable pub kept : (n terms : ℕ) → List ℕ → ℕ → List ℕ
kept zero terms s at = []
kept (suc n) terms s at = cons_of (counted_mask terms terms s at) (λ after. kept n terms s after)

-- what f gives after a step that found n, and nothing after a fault
abbrev pub after : Step ℕ → (ℕ → ℕ → List ℕ) → List ℕ
after (got n at) f = f n at
after (refused w) f = []

-- the excuses before the first fault
unfoldable pub kept_excuses : Form → (n : ℕ) → List ℕ → ℕ → List ℕ
kept_excuses One n s at = []
kept_excuses Two n s at = after (word_count excuse_limit s at) (λ k first. kept k (wire_terms_of n) s first)

-- of k rules and the excuses after them, those before the first fault
unfoldable pub kept_terms : Form → (n k : ℕ) → List ℕ → ℕ → List ℕ
kept_terms f n k s at = kept k (terms_of n) s at ++ after (rules_pass k (terms_of n) s at) (λ z first. kept_excuses f n s first)

abbrev pub kept_of : Form → Step Head → List ℕ → List ℕ
kept_of f (got h at) s = kept_terms f h.wires h.count s at
kept_of f (refused w) s = []

-- the rules and excuses of a sheet before its first fault
unfoldable pub kept_masks : Form → List ℕ → List ℕ
kept_masks f s = kept_of f (head s 0) s
