-- The job sheet there and back, in form one: reading and writing are inverse.
--     write_read                              the sheet of a description with which nothing is amiss is read as the description
--     read-write                              the job of an accepted sheet is written as that sheet
--     read-fine, read-describes               with it nothing is amiss, given room
--     written_back, written-accepted          what the writer leaves is read as what was written
--     rewritten                               the job of an accepted sheet, as the writer answers and leaves it
--     write-longest                           no written sheet is longer than the longest
-- Assumes nothing.
use mathlib.Core.Path.{◌≡◌, ap, ◌∙◌}
use mathlib.Core.List.{List, ◌++◌}
use Prim.Native.Nat.{ℕ, ◌≤◌}
use lib.ListN.{length, take, drop}
use lib.Seq.{take-append_seam}
use Rattle.std.specs.Prelude.{Ok}
use Rattle.steps.specs.Outcome.{success}
use Rattle.sheet.specs.declared.Form.TheVariants.{One}
use Rattle.sheet.specs.Job.{Job, accepted}
use Rattle.sheet.specs.JobSheet.{pin_limit, terms_of, longest, read_job, outcome_of, read_outcome}
use Rattle.sheet.proofs.Length.{accepted-short}
use Rattle.answer.specs.Written.{Bytes}
use Rattle.writer.specs.JobWritten.{job_sheet, Describes}
use Rattle.writer.specs.Writing.{judge, write_outcome, write_exit}
use Rattle.writer.proofs.Judging.{fine-outcome, fine-exit}
use Rattle.writer.proofs.Masks.{rising-lt}
use Rattle.writer.proofs.Sound.{rules-lt, fine-sound, sound-fine}
use Rattle.writer.proofs.Small.{code-fine}
use Rattle.writer.proofs.Stands.{sound-read}
use Rattle.writer.proofs.Found.{job-found}

-- ---- there and back

module _ (j : Job) (room : ℕ) (d : Describes j) (fine : judge j room ≡ Ok tt) where
  pub write_read : read_job One (job_sheet j) ≡ accepted j
  write_read = sound-read j (fine-sound j room d fine)

  pub write-longest : length (job_sheet j) ≤ longest One
  write-longest = accepted-short One (job_sheet j) j write_read

pub read-write : (s : List ℕ) (j : Job) → Bytes s → read_job One s ≡ accepted j → job_sheet j ≡ s
read-write s j b ok = (job-found s j b ok).1

pub read-fine : (s : List ℕ) (j : Job) (room : ℕ) → Bytes s → read_job One s ≡ accepted j → length s ≤ room → judge j room ≡ Ok tt
read-fine s j room b ok l =
    let f = job-found s j b ok in
    sound-fine j f.0 room (rw f.1 l)

pub read-describes : (s : List ℕ) (j : Job) → Bytes s → read_job One s ≡ accepted j → Describes j
read-describes s j b ok =
    let f = (job-found s j b ok).0 in
    record {
      pins = rising-lt 0 pin_limit j.pins f.pins;
      sees_a = f.sees_a.small;
      sees_b = f.sees_b.small;
      rules = rules-lt (terms_of (length j.pins)) j.rules f.rules;
      excuses = f.excuses;
    }

-- ---- the same over what the writer answers and leaves

module _ (j : Job) (buf : List ℕ) where
  pub written_back : Describes j → (write_outcome j (length buf)).code ≡ 0 → read_job One (take (write_outcome j (length buf)).written (write_exit j buf)) ≡ accepted j
  written_back d ok =
      let fine = code-fine j (length buf) ok in
      rw (fine-outcome j buf fine, fine-exit j buf fine, take-append_seam (job_sheet j) (drop (length (job_sheet j)) buf)) (write_read j (length buf) d fine)

  pub written-accepted : Describes j → (write_outcome j (length buf)).code ≡ 0 → read_outcome One (take (write_outcome j (length buf)).written (write_exit j buf)) ≡ success 0 0
  unfolding read_outcome
  written-accepted d ok = ap outcome_of (written_back d ok)

pub rewritten : (s : List ℕ) (j : Job) (buf : List ℕ) → Bytes s → read_job One s ≡ accepted j → length s ≤ length buf
    → (write_outcome j (length buf) ≡ success 0 (length s)) × (write_exit j buf ≡ s ++ drop (length s) buf)
rewritten s j buf b ok l =
    let same = read-write s j b ok in
    let fine = read-fine s j (length buf) b ok l in
    (fine-outcome j buf fine ∙ ap (λ (x : List ℕ). success 0 (length x)) same, fine-exit j buf fine ∙ ap (λ (x : List ℕ). x ++ drop (length x) buf) same)
