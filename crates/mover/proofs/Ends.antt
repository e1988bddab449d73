-- The ways out of a move, each with how it ends.
--     front_fits     the front of a sheet has room where its length has
--     put-no-room, put-wrote       a sheet that was to be written
--     two-refused, two-taken       to form two
--     one-refused, one-lost, one-taken     to form one
-- Assumes nothing.
use mathlib.Core.Path.{◌≡◌, refl, ◌∙◌}
use mathlib.Core.List.{List, [], ◌∷◌, ◌++◌}
use Prim.Native.Nat.{ℕ, ◌+◌, ◌-◌, ◌≤◌, ◌<◌}
use native.Mathlib.Omega.{arith}
use borrow.Author.Tests.{le-leb, lt-leb}
use lib.ListN.{length, take, length-take}
use lib.Seq.{sets}
use Rattle.steps.specs.declared.Outcome.{Outcome}
use Rattle.steps.specs.declared.Refusal.{Refusal}
use Rattle.steps.specs.Outcome.{success, refusal, refused_job, Ended}
use Rattle.steps.proofs.Runs.{at_front}
use Rattle.sheet.specs.declared.Form.TheVariants.{One, Two}
use Rattle.sheet.specs.Job.{Job, accepted, rejected}
use Rattle.sheet.specs.JobSheet.{read_job}
use Rattle.answer.specs.Written.{two}
use Rattle.mover.specs.Moved.{excuses_at, without, put, ending, moved_to, moving}
use Rattle.mover.proofs.Front.{none-long}

pub front_fits : (kept : ℕ) (s buf : List ℕ) → kept ≤ length buf → 0 + length (take kept s) ≤ length buf
front_fits kept s buf l = omega (arith, length-take kept s)

module _ (t entry : List ℕ) {o : Outcome} where
  pub put-no-room : length entry < length t → o ≡ refusal 6 0 0 → Ended (put t entry) o entry
  put-no-room l e = rw (lt-leb (length t) (length entry) l) (record { outcome = e; exit_is = refl })

  pub put-wrote : (exit : List ℕ) → length t ≤ length entry → o ≡ success 0 (length t) → exit ≡ sets entry 0 t → Ended (put t entry) o exit
  put-wrote exit l e f = rw (le-leb (length t) (length entry) l) (record { outcome = e; exit_is = f ∙ at_front entry t l })

empty : (es : List ℕ) → length es ≡ 0 → es ≡ []
empty [] n = refl
empty (x ∷ es) n = let no : ⊥ = omega arith in absurd no

module _ (s entry : List ℕ) {o : Outcome} where
  pub two-refused : (w : Refusal) → read_job One s ≡ rejected w → o ≡ refused_job 1 w → Ended (moving Two s entry) o entry
  unfolding moved_to moving
  two-refused w is e = rw is (record { outcome = e; exit_is = refl })

  pub two-taken : (j : Job) (exit : List ℕ) → read_job One s ≡ accepted j → Ended (put (s ++ two 0) entry) o exit → Ended (moving Two s entry) o exit
  unfolding moved_to moving
  two-taken j exit is e = rw is e

  pub one-refused : (w : Refusal) → read_job Two s ≡ rejected w → o ≡ refused_job 1 w → Ended (moving One s entry) o entry
  unfolding moved_to moving
  one-refused w is e = rw is (record { outcome = e; exit_is = refl })

  lost : (es : List ℕ) → (length es ≡ 0 → ⊥) → o ≡ refusal 16 1 (excuses_at s) → Ended (ending (without es s) entry) o entry
  lost [] n e = absurd (n refl)
  lost (x ∷ es) n e = record { outcome = e; exit_is = refl }

  pub one-lost : (j : Job) → read_job Two s ≡ accepted j → (length j.excuses ≡ 0 → ⊥) → o ≡ refusal 16 1 (excuses_at s) → Ended (moving One s entry) o entry
  unfolding moved_to moving
  one-lost j is n e = rw is (lost j.excuses n e)

  pub one-taken : (j : Job) (exit : List ℕ) → read_job Two s ≡ accepted j → length j.excuses ≡ 0 → Ended (put (take (length s - 2) s) entry) o exit → Ended (moving One s entry) o exit
  unfolding moved_to moving
  one-taken j exit is n e =
      let none = empty j.excuses n in
      let at : length s - 2 ≡ excuses_at s = omega (arith, none-long s j is none) in
      rw (is, none, ← at) e
