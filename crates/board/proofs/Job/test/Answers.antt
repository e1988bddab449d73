-- `board::Job::test` meets its contract. Behind the rules stand the excuses, and a combination is excused exactly where the set of the true terms contains one
-- of them; else the rule that is told is the first that no true term is in. Assumes nothing.
use Rattle.std.proofs.Common.{◌≡◌, ℕ, ◌+◌, ◌-◌, ◌*◌, ◌^◌, ◌<◌, Bool, true, false, List, length, get_or, take, drop, Option, Some, None, sym, ap, ◌∙◌, arith}
use lib.ListN.{length-take}
use lib.Seq.{get_or-take, get_or-drop}
use Rattle.wires.specs.Terms.{FirstBroken, Truths, some_within}
use Rattle.sheet.specs.declared.JobHead.{JobHead}
use Rattle.board.specs.JobBoard.{excusedb, head_board, Sized}
use Rattle.board.specs.Tested.{tested}
use Rattle.board.proofs.Rules.{excused-by, first-breaks, first-rule, first-none}
use Rattle.board.proofs.Job.test.Goals as goal

-- the excuses, behind the rules
module _ (h : JobHead) (masks : List ℕ) (z : Sized h masks) where
  abbrev rules_of : List ℕ
  rules_of = take h.rules masks

  abbrev excuses : List ℕ
  excuses = take h.excuses (drop h.rules masks)

  small : (i : ℕ) → i < length excuses → get_or excuses i 0 < 2 ^ (2 * h.wires)
  small i l =
      let few : i < h.excuses = omega (arith, length-take h.excuses (drop h.rules masks)) in
      rw (get_or-take h.excuses (drop h.rules masks) i 0 few, get_or-drop h.rules masks i 0) (z.excuses i few)

  -- the slice that the code passes
  behind : take (h.rules + h.excuses - h.rules) (drop h.rules masks) ≡ excuses
  behind = ap (λ (k : ℕ). take k (drop h.rules masks)) (omega arith)

  -- whether it is excused, as the call told, and then which rule the other call told
  module _ (a x y set : ℕ) (t : Truths h.wires a x y set) (r : Bool) (told : r ≡ some_within (take (h.rules + h.excuses - h.rules) (drop h.rules masks)) set) where
    excused-is : excusedb h.wires excuses a ≡ r
    excused-is = sym (told ∙ rw behind (excused-by h.wires a x y excuses set t small))

    waived : r ≡ true → None ≡ tested (head_board h masks) a x y
    waived e = rw (excused-is ∙ e)

    told-first : r ≡ false → (o : Option ℕ) → FirstBroken rules_of set o → o ≡ tested (head_board h masks) a x y
    told-first e None each = rw (excused-is ∙ e, first-none h.wires a x y rules_of set t each)
    told-first e (Some k) f = rw (excused-is ∙ e, first-breaks h.wires a x y rules_of set t k f) (ap Some (first-rule h.wires a x y rules_of set t k f))

pub returns-then-some_within : goal.returns-then-some_within
returns-then-some_within c =
    waived c.args.self.now.head c.args.self.now.masks.now c.args.self.now.sized _ _ _ _ c.truths-set.ensures _ c.some_within.ensures c.if-some_within.true

pub returns : goal.returns
returns c =
    told-first c.args.self.now.head c.args.self.now.masks.now c.args.self.now.sized _ _ _ _ c.truths-set.ensures _ c.some_within.ensures c.if-some_within.false _ c.first_broken.ensures
