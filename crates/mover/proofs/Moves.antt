-- What moving promises, for every sheet s that is moved to the form f, as t.
--     Moves, moves   t is accepted in its form, as the job that s is in the other, and moved back it is s
--     same_read      so the two are read as one
--     written        a call with room writes t
--     called         a call that answers 0 has written t, at the front of the buffer
--     there_and_back     so what it wrote, moved back by a call with room, is s again
-- Assumes nothing.
use mathlib.Core.Path.{◌≡◌, refl, sym, ap, subst, ◌∙◌}
use mathlib.Core.Bool.{Bool, true, false}
use mathlib.Core.List.{List, [], ◌∷◌, ◌++◌}
use Prim.Native.Nat.{ℕ, ◌≤◌}
use native.Mathlib.Omega.{arith}
use borrow.Author.Tests.{le-leb, leb-true}
use lib.Dec.{leb}
use lib.ListN.{length, take, length-append}
use lib.Seq.{take-append_seam}
use Rattle.steps.specs.Step.{pick}
use Rattle.steps.specs.Outcome.{refusal, refusing, writing}
use Rattle.steps.proofs.Codes.{code-bounds}
use Rattle.sheet.specs.declared.Form.{Form}
use Rattle.sheet.specs.declared.Form.TheVariants.{One, Two}
use Rattle.sheet.specs.Job.{Job, Verdict, accepted, rejected}
use Rattle.sheet.specs.JobSheet.{read_job}
use Rattle.sheet.proofs.Laws.{none-excused}
use Rattle.sheet.proofs.Forms.{form-two, form-one}
use Rattle.answer.specs.Written.{two}
use Rattle.mover.specs.Moved.{Moved, moved, excuses_at, to_two, without, to_one, other, put, ending, moved_to, moving}
use Rattle.mover.proofs.Front.{none-long, none_after}

pub record Moves (f : Form) (s t : List ℕ) : Type 0 where
  pub job : Job
  pub was : read_job (other f) s ≡ accepted job
  pub is : read_job f t ≡ accepted job
  pub back : moved_to (other f) t ≡ moved s

-- ---- which sheets are moved, and to what

same-sheet : {t u : List ℕ} → moved t ≡ moved u → t ≡ u
same-sheet e = cc

module _ (s t : List ℕ) where
  two_from : (v : Verdict) → to_two v s ≡ moved t → (j : Job) × (v ≡ accepted j) × (s ++ two 0 ≡ t)
  two_from (accepted j) e = (j, refl, same-sheet e)
  two_from (rejected w) e = let z : ◌≡◌ {A = ℕ} 0 1 = cc in let no : ⊥ = omega arith in absurd no

  one_none : (es : List ℕ) → without es s ≡ moved t → (es ≡ []) × (take (excuses_at s) s ≡ t)
  one_none [] e = (refl, same-sheet e)
  one_none (x ∷ es) e = let z : ◌≡◌ {A = ℕ} 0 1 = cc in let no : ⊥ = omega arith in absurd no

  one_from : (v : Verdict) → to_one v s ≡ moved t → (j : Job) × (v ≡ accepted j) × (j.excuses ≡ []) × (take (excuses_at s) s ≡ t)
  one_from (accepted j) e = let n = one_none j.excuses e in (j, refl, n.0, n.1)
  one_from (rejected w) e = let z : ◌≡◌ {A = ℕ} 0 1 = cc in let no : ⊥ = omega arith in absurd no

-- ---- to form two, and to form one

back-to-one : (s : List ℕ) (j : Job) → read_job One s ≡ accepted j → moved_to One (s ++ two 0) ≡ moved s
unfolding moved_to
back-to-one s j was =
    let is = form-two s j was in
    let none = none-excused s j was in
    let at : excuses_at (s ++ two 0) ≡ length s = omega (arith, none-long (s ++ two 0) j is none, length-append s (two 0)) in
    rw (is, none, at) (ap moved (take-append_seam s (two 0)))

pub moves : (f : Form) (s t : List ℕ) → moved_to f s ≡ moved t → Moves f s t
unfolding moved_to
moves Two s t e =
    let m = two_from s t (read_job One s) e in
    subst (Moves Two s) m.2 (record { job = m.0; was = m.1; is = form-two s m.0 m.1; back = back-to-one s m.0 m.1 })
moves One s t e =
    let m = one_from s t (read_job Two s) e in
    let whole : s ≡ take (excuses_at s) s ++ two 0 = none_after s m.0 m.1 m.2 in
    let is : read_job One (take (excuses_at s) s) ≡ accepted m.0 = form-one (take (excuses_at s) s) m.0 m.2 (sym (ap (read_job Two) whole) ∙ m.1) in
    subst (Moves One s) m.3 (record { job = m.0; was = m.1; is = is; back = rw is (ap moved (sym whole)) })

pub same_read : (f : Form) (s t : List ℕ) → moved_to f s ≡ moved t → read_job f t ≡ read_job (other f) s
same_read f s t e = let m = moves f s t e in m.is ∙ sym m.was

-- ---- the calls

module _ (s entry : List ℕ) where
  put-so : (t : List ℕ) → (put t entry).outcome.code ≡ 0 → length t ≤ length entry
  put-so t e = go (leb (length t) (length entry)) refl e
    where
      go : (b : Bool) → leb (length t) (length entry) ≡ b → (pick b (writing 0 t entry) (refusing (refusal 6 0 0) entry)).outcome.code ≡ 0 → length t ≤ length entry
      go true p e = leb-true (length t) (length entry) p
      go false p e = let no : ⊥ = omega arith in absurd no

  abbrev Put : Moved → Type 0
  Put m = (t : List ℕ) × (m ≡ moved t) × (length t ≤ length entry)

  two-so : (v : Verdict) → (ending (to_two v s) entry).outcome.code ≡ 0 → Put (to_two v s)
  two-so (accepted j) e = (s ++ two 0, refl, put-so (s ++ two 0) e)
  two-so (rejected w) e = let no : ⊥ = omega (arith, code-bounds w) in absurd no

  none_so : (es : List ℕ) → (ending (without es s) entry).outcome.code ≡ 0 → Put (without es s)
  none_so [] e = (take (excuses_at s) s, refl, put-so (take (excuses_at s) s) e)
  none_so (x ∷ es) e = let no : ⊥ = omega arith in absurd no

  one-so : (v : Verdict) → (ending (to_one v s) entry).outcome.code ≡ 0 → Put (to_one v s)
  one-so (accepted j) e = none_so j.excuses e
  one-so (rejected w) e = let no : ⊥ = omega (arith, code-bounds w) in absurd no

  put-to : (f : Form) → (moving f s entry).outcome.code ≡ 0 → Put (moved_to f s)
  unfolding moving moved_to
  put-to One e = one-so (read_job Two s) e
  put-to Two e = two-so (read_job One s) e

pub written : (f : Form) (s t entry : List ℕ) → moved_to f s ≡ moved t → length t ≤ length entry → moving f s entry ≡ writing 0 t entry
unfolding moving
written f s t entry e l = rw (e, le-leb (length t) (length entry) l)

pub called : (f : Form) (s entry : List ℕ) → (moving f s entry).outcome.code ≡ 0 → (t : List ℕ) × (moved_to f s ≡ moved t) × (moving f s entry ≡ writing 0 t entry)
called f s entry e = let p = put-to s entry f e in (p.0, p.1, written f s p.0 entry p.1 p.2)

pub there_and_back : (f : Form) (s entry entry' : List ℕ) → (moving f s entry).outcome.code ≡ 0 → length s ≤ length entry'
    → moving (other f) (take (moving f s entry).outcome.written (moving f s entry).exit) entry' ≡ writing 0 s entry'
there_and_back f s entry entry' e l =
    let c = called f s entry e in
    let front : take (moving f s entry).outcome.written (moving f s entry).exit ≡ c.0 = rw c.2 (take-append_seam c.0 _) in
    rw front (written (other f) c.0 s entry' (moves f s c.0 c.1).back l)
