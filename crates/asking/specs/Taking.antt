-- A job that was read, as `asks_no_more` and the widener's parts ask for it.
--     TakenAs, IsTaken      a job sheet was accepted, and its numbers, rules and excuses are those found
-- Assumes nothing: these are definitions.
use Rattle.std.specs.Prelude.{◌≡◌, List, ℕ, take, drop}
use Rattle.sheet.specs.declared.Form.{Form}
use Rattle.sheet.specs.declared.JobHead.{JobHead}
use Rattle.sheet.specs.Job.{Job, accepted}
use Rattle.sheet.specs.JobSheet.{read_job}
use Rattle.sheet.specs.JobFound.{job_head}
use Rattle.board.specs.JobBoard.{Sized}

pub record TakenAs (s : List ℕ) (h : JobHead) (masks : List ℕ) (j : Job) : Type 0 where
  pub form : Form
  pub is : read_job form s ≡ accepted j
  pub head : h ≡ job_head j
  pub sized : Sized h masks
  pub rules_are : take h.rules masks ≡ j.rules
  pub excuses_are : take h.excuses (drop h.rules masks) ≡ j.excuses

abbrev pub IsTaken : (s : List ℕ) (h : JobHead) (masks : List ℕ) → Type 0
IsTaken s h masks = (j : Job) × TakenAs s h masks j
