-- `text::text` meets its contract: the solver's answer is printed by its code. Assumes nothing.
use mathlib.Core.Path.{refl}
use native.Mathlib.Omega.{arith}
use Rattle.text.specs.Text.{no_room}
use Rattle.text.proofs.Ends.{tables-ask, walk-ask, tables-ends, walk_ends, refused-ends}
use Rattle.text.proofs.text.Goals as goal
use Rattle.text.proofs.text.Goals.{in-20, in-21, in_default}

pub returns-then-out-lt-LONGEST_TEXT : goal.returns-then-out-lt-LONGEST_TEXT
returns-then-out-lt-LONGEST_TEXT c = no_room c.if-out-lt-LONGEST_TEXT.true c.refused.ensures refl

pub print_tables-written-requires : goal.print_tables-written-requires
print_tables-written-requires c = tables-ask _ _ _ _ _ (omega arith) c.solve-o.ensures _ c.if-out-lt-LONGEST_TEXT.false c.in-20.is

pub print_walk-written-requires : goal.print_walk-written-requires
print_walk-written-requires c = walk-ask _ _ _ _ _ (omega arith) c.solve-o.ensures _ c.if-out-lt-LONGEST_TEXT.false c.in-21.is

pub returns : goal.returns
returns c = elim c.match-o.branch [
  | in-20 w ↦ tables-ends _ _ _ _ _ (omega arith) c.solve-o.ensures _ c.if-out-lt-LONGEST_TEXT.false _ _ _ c.succeeded.ensures w.in-20.is (rw (w.out-is, w.written-is) w.print_tables-written.ensures)
  | in-21 w ↦ walk_ends _ _ _ _ _ (omega arith) c.solve-o.ensures _ c.if-out-lt-LONGEST_TEXT.false _ _ _ c.succeeded.ensures w.in-21.is (rw (w.out-is, w.written-is) w.print_walk-written.ensures)
  | in_default w ↦ refused-ends _ _ _ _ _ (omega arith) c.solve-o.ensures _ c.if-out-lt-LONGEST_TEXT.false _ _ _ c.succeeded.ensures (λ e. omega arith) (λ e. omega arith) (rw (w.out-is, w.written-is) w.print_refused-written.ensures)
]
