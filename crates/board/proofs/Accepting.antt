-- A job sheet that was accepted, with its rules and then its excuses at the front of an array of 320.
--     Taken     the job, and that its numbers, its rules and its excuses are those found
--     taken     from what the reader of jobs told and stored
--     taken-checked, refused-checked      the checker's outcome, where the job is accepted, and where it is refused
-- Assumes nothing.
use mathlib.Core.Path.{◌≡◌, refl, ap, ap₂, ◌∙◌}
use mathlib.Core.List.{List}
use Prim.Native.Nat.{ℕ, ◌+◌, ◌≤◌}
use native.Mathlib.Omega.{arith}
use lib.ListN.{length, take, drop}
use lib.Seq.{sets, length-sets, get_or-take, get_or-drop}
use Rattle.steps.specs.declared.Refusal.{Refusal}
use Rattle.steps.specs.Outcome.{refused_job}
use Rattle.sheet.specs.declared.Form.{Form}
use Rattle.sheet.specs.declared.JobHead.{JobHead}
use Rattle.std.specs.Prelude.{Result, Ok}
use Rattle.steps.specs.declared.Refusal.{Refusal}
use Rattle.sheet.specs.Job.{Job, accepted, rejected}
use Rattle.sheet.specs.JobSheet.{read_job}
use Rattle.sheet.specs.JobFound.{job_head, as_job, kept_masks}
use Rattle.sheet.proofs.Jobs.{job-accepted}
use Rattle.sheet.proofs.Laws.{rules-front, excuses-next, job-bounds, seen-bounds, excuses-most, excuse-bounds}
use Rattle.board.specs.Board.{Board}
use Rattle.board.specs.Check.{judge_sheet, check_outcome}
use Rattle.board.specs.JobBoard.{board_of, job_board, head_board, Sized}

pub record Taken (f : Form) (s : List ℕ) (h : JobHead) (masks : List ℕ) : Type 0 where
  pub job : Job
  pub is : read_job f s ≡ accepted job
  pub sized : Sized h masks
  pub board : head_board h masks ≡ job_board job
  pub head : h ≡ job_head job
  pub rules_are : take h.rules masks ≡ job.rules
  pub excuses_are : take h.excuses (drop h.rules masks) ≡ job.excuses

module _ (f : Form) (s : List ℕ) (old : List ℕ) (room : length old ≡ 320) where
  abbrev new : List ℕ
  new = sets old 0 (kept_masks f s)

  pub stored-length : length new ≡ 320
  stored-length = length-sets old 0 (kept_masks f s) ∙ room

  head-taken : (j : Job) → read_job f s ≡ accepted j → Taken f s (job_head j) new
  head-taken j is =
      let b = job-bounds f s j is in
      let m = seen-bounds f s j is in
      let most = excuses-most f s j is in
      let few : length j.rules + length j.excuses ≤ length old = omega arith in
      let rs : take (length j.rules) new ≡ j.rules = rules-front f s j is old few in
      let es : take (length j.excuses) (drop (length j.rules) new) ≡ j.excuses = excuses-next f s j is old few in record {
        job = j;
        is = is;
        sized = record {
          wires = b.0;
          count = omega (arith, stored-length);
          excuses = λ i l.
              rw (← get_or-drop (length j.rules) new i 0, ← get_or-take (length j.excuses) (drop (length j.rules) new) i 0 l, es) (excuse-bounds f s j is i l);
          mask_a = b.2;
          mask_b = b.3;
          sees_a = m.0;
          sees_b = m.1;
        };
        board = ap₂ (board_of (length j.pins) j.sees_a j.sees_b) rs es;
        head = refl;
        rules_are = rs;
        excuses_are = es;
      }

  pub taken : (x : Result JobHead Refusal) (h : JobHead) (masks : List ℕ) → x ≡ as_job (read_job f s) → x ≡ Ok h → masks ≡ new → Taken f s h masks
  taken x h masks e p q =
      let t = job-accepted f s x h e p in
      rw (q, t.2) (head-taken t.0 t.1)

pub taken-checked : (f : Form) (s : List ℕ) (h : JobHead) (masks : List ℕ) → Taken f s h masks → (answer : List ℕ) → judge_sheet (head_board h masks) answer ≡ check_outcome f s answer
unfolding check_outcome
taken-checked f s h masks t answer = rw t.is (ap (λ (B : Board). judge_sheet B answer) t.board)

pub refused-checked : (f : Form) (s : List ℕ) (w : Refusal) → read_job f s ≡ rejected w → (answer : List ℕ) → refused_job 1 w ≡ check_outcome f s answer
unfolding check_outcome
refused-checked f s w e answer = rw e
