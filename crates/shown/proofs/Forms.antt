-- Two sheets, in whichever forms, that are read as one job: the solver gives the same tables, or a walk both times, and each answer sheet gets the same
-- outcome from the checker.
--     both-solved, both_ends, both-checked        a sheet of form one and the same sheet with no excuses in form two
--     moved-solved, moved_ends, moved-checked     a sheet and what it is moved to
-- Assumes nothing.
use mathlib.Core.Path.{◌≡◌, sym, ap, ◌∙◌}
use mathlib.Core.List.{List, [], ◌∷◌, ◌++◌}
use mathlib.Core.Logic.{◌↔◌}
use Prim.Native.Nat.{ℕ}
use Rattle.steps.specs.declared.Outcome.{Outcome}
use Rattle.sheet.specs.declared.Form.{Form}
use Rattle.sheet.specs.declared.Form.TheVariants.{One, Two}
use Rattle.sheet.specs.Job.{Job, Verdict, accepted}
use Rattle.sheet.specs.JobSheet.{read_job}
use Rattle.mover.specs.Moved.{moved, other, moved_to}
use Rattle.board.specs.Check.{after_job, check_outcome}
use Rattle.solver.specs.Solved.{Solved}
use Rattle.solver.proofs.Demand.{SameEnding, same-ending, same-job}
use Rattle.sheet.proofs.Forms.{form-two}
use Rattle.mover.proofs.Moves.{same_read}

-- however the solver ends for the one, it can end for the other; so two endings for one buffer are equal, or both are walks
module _ (f g : Form) (s t : List ℕ) (same : read_job g t ≡ read_job f s) where
  solved-so : (entry : List ℕ) (o : Outcome) (exit : List ℕ) → Solved f s entry o exit ↔ Solved g t entry o exit
  solved-so entry o exit = (same-job same, same-job (sym same))

  ends_so : {entry : List ℕ} {o p : Outcome} {exit exit' : List ℕ} → Solved f s entry o exit → Solved g t entry p exit' → SameEnding o p exit exit'
  ends_so x y = same-ending x (same-job (sym same) y)

  checked-so : (answer : List ℕ) → check_outcome g t answer ≡ check_outcome f s answer
  unfolding check_outcome
  checked-so answer = ap (λ (v : Verdict). after_job v answer) same

module _ (s : List ℕ) (j : Job) (ok : read_job One s ≡ accepted j) where
  -- the sheet in form two
  abbrev two : List ℕ
  two = s ++ (0 ∷ 0 ∷ [])

  two-read : read_job Two two ≡ read_job One s
  two-read = form-two s j ok ∙ sym ok

  pub both-solved : (entry : List ℕ) (o : Outcome) (exit : List ℕ) → Solved One s entry o exit ↔ Solved Two two entry o exit
  both-solved = solved-so One Two s two two-read

  pub both_ends : {entry : List ℕ} {o p : Outcome} {exit exit' : List ℕ} → Solved One s entry o exit → Solved Two two entry p exit' → SameEnding o p exit exit'
  both_ends = ends_so One Two s two two-read

  pub both-checked : (answer : List ℕ) → check_outcome Two two answer ≡ check_outcome One s answer
  both-checked = checked-so One Two s two two-read

module _ (f : Form) (s t : List ℕ) (e : moved_to f s ≡ moved t) where
  pub moved-solved : (entry : List ℕ) (o : Outcome) (exit : List ℕ) → Solved (other f) s entry o exit ↔ Solved f t entry o exit
  moved-solved = solved-so (other f) f s t (same_read f s t e)

  pub moved_ends : {entry : List ℕ} {o p : Outcome} {exit exit' : List ℕ} → Solved (other f) s entry o exit → Solved f t entry p exit' → SameEnding o p exit exit'
  moved_ends = ends_so (other f) f s t (same_read f s t e)

  pub moved-checked : (answer : List ℕ) → check_outcome f t answer ≡ check_outcome (other f) s answer
  moved-checked = checked-so (other f) f s t (same_read f s t e)
