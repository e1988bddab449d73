-- Outcomes (document 01, "Outcome numbers"; document 02, request 4).
--     code_of, answer_code_of, place_of    the paper's number and place of each refusal, of a job sheet and of an answer sheet
--     success, refusal   the two kinds of outcome
--     rule_broken         the refusal that names a rule (document 02, request 4)
--     Ending, Ended      how a call with a lent buffer ends
-- Assumes nothing: these are definitions.
use Rattle.std.specs.Prelude.{ℕ, ◌≡◌, List, ◌++◌, length, drop}
use Rattle.steps.specs.declared.Refusal.{Refusal}
use Rattle.steps.specs.declared.Refusal.TheVariants.{Ends, TooMany, NotRising, TooHigh, LeftOver, OtherKind, NotABit, OutOfRange}
use Rattle.steps.specs.declared.Outcome.{Outcome}

-- 1: job ends where a byte is called for. 2: count above its limit. 3: entry not above the one before.
-- 4: wire position not below n, or term not below 2n+4, in an excuse 2n. 5: bytes left over in a job.
abbrev pub code_of : Refusal → ℕ
code_of (Ends place) = 1
code_of (TooMany place) = 2
code_of (NotRising place) = 3
code_of (TooHigh place) = 4
code_of (LeftOver place) = 5
-- 8: answer count that, after the counts before it, is of neither permitted kind. 9: table byte above 1.
-- 11: claim not below 2R, or combination not below 2^n. No job is refused so.
code_of (OtherKind place) = 8
code_of (NotABit place) = 9
code_of (OutOfRange place) = 11

-- 7: answer ends early, or has bytes over.
abbrev pub answer_code_of : Refusal → ℕ
answer_code_of (Ends place) = 7
answer_code_of (TooMany place) = 2
answer_code_of (NotRising place) = 3
answer_code_of (TooHigh place) = 4
answer_code_of (LeftOver place) = 7
answer_code_of (OtherKind place) = 8
answer_code_of (NotABit place) = 9
answer_code_of (OutOfRange place) = 11

abbrev pub place_of : Refusal → ℕ
place_of (Ends place) = place
place_of (TooMany place) = place
place_of (NotRising place) = place
place_of (TooHigh place) = place
place_of (LeftOver place) = place
place_of (OtherKind place) = place
place_of (NotABit place) = place
place_of (OutOfRange place) = place

-- An outcome is five numbers: code, sheet, place, bytes written, and the rule, from 0, for code 10; 0 elsewhere.
-- Successes have sheet and place 0.
abbrev pub success : (code written : ℕ) → Outcome
success c w = record { code = c; sheet = 0; place = 0; written = w; rule = 0 }

-- Refusals write 0 bytes.
abbrev pub refusal_naming : (code sheet place rule : ℕ) → Outcome
refusal_naming c s p r = record { code = c; sheet = s; place = p; written = 0; rule = r }

abbrev pub refusal : (code sheet place : ℕ) → Outcome
refusal c s p = refusal_naming c s p 0

-- 10: tables break a rule, at the lowest such combination.
abbrev pub rule_broken : (place rule : ℕ) → Outcome
rule_broken p r = refusal_naming 10 2 p r

-- Codes 1 to 5 name the sheet being read.
abbrev pub refused_job : (sheet : ℕ) → Refusal → Outcome
refused_job s w = refusal (code_of w) s (place_of w)

-- Codes 7 to 13 name sheet 2.
abbrev pub refused_answer : Refusal → Outcome
refused_answer w = refusal (answer_code_of w) 2 (place_of w)

-- How a call ends: an outcome, and what the lent buffer holds.
pub record Ending : Type 0 where
  pub outcome : Outcome
  pub exit : List ℕ

-- Refusals write 0 bytes; all buffers keep their contents.
abbrev pub refusing : Outcome → List ℕ → Ending
refusing o entry = record { outcome = o; exit = entry }

-- A success writes exactly one sheet; bytes beyond the written length stay unchanged.
abbrev pub writing : (code : ℕ) (sheet entry : List ℕ) → Ending
writing c sheet entry = record { outcome = success c (length sheet); exit = sheet ++ drop (length sheet) entry }

-- a call ended so
pub record Ended (e : Ending) (o : Outcome) (exit : List ℕ) : Type 0 where
  pub outcome : o ≡ e.outcome
  pub exit_is : exit ≡ e.exit
