-- Boards that no combination tells apart have the same steps, the same standing walks, the same pairs and the same first pair.
-- Assumes nothing.
use mathlib.Core.Path.{◌≡◌, ◌∙◌, sym}
use mathlib.Core.List.{List, [], ◌∷◌}
use mathlib.Core.Logic.{◌↔◌}
use Prim.Native.Nat.{ℕ, ◌-◌, ◌<◌}
use native.Mathlib.Omega.{arith}
use Rattle.theory.specs.Same.{Same}
use Rattle.board.specs.Board.{Board, Shows, rows, at_b, value}
use Rattle.board.specs.Tables.{held, Tables, Fits, Pair, First}
use Rattle.answer.specs.Answer.{Entry}
use Rattle.board.specs.Walk.{start, Step, from_a, from_b, Goes, Stands}

pub same-sym : (P Q : Board) → Same P Q → Same Q P
same-sym P Q s =
    record {
      rows_a = sym s.rows_a;
      rows_b = sym s.rows_b;
      combinations = sym s.combinations;
      show_a = λ a h. sym (s.show_a a (rw s.combinations h));
      show_b = λ a h. sym (s.show_b a (rw s.combinations h));
      breaks = λ a x y h hx hy. sym (s.breaks a x y (rw s.combinations h) hx hy);
    }

module _ (P Q : Board) (s : Same P Q) where
  same-at_b : (a : ℕ) → a < P.combinations → at_b P a ≡ at_b Q a
  same-at_b a h = cc (s.rows_a, s.show_b a h)

  same_step : (L M a : ℕ) → Step P L M a → Step Q L M a
  same_step L M a (from_a h l m b) =
      from_a (rw (← s.combinations) h) (l ∙ s.show_a a h) (m ∙ same-at_b a h) (sym (s.breaks a (value L) (1 - value M) h (omega arith) (omega arith)) ∙ b)
  same_step L M a (from_b h l m b) =
      from_b (rw (← s.combinations) h) (l ∙ same-at_b a h) (m ∙ s.show_a a h) (sym (s.breaks a (1 - value M) (value L) h (omega arith) (omega arith)) ∙ b)

  same-goes : (es : List Entry) (M : ℕ) → Goes P es M → Goes Q es M
  same-goes [] M g = tt
  same-goes (e ∷ es) M g = (same_step e.says (start es M) e.by g.0, same-goes es M g.1)

  same-stands : (w : List Entry) → Stands P w → Stands Q w
  same-stands [] w = w
  same-stands (e ∷ es) w = (same-goes (e ∷ es) e.says w.0, w.1)

  same_rows : rows P ≡ rows Q
  same_rows = cc (s.rows_a, s.rows_b)

  pub same-shows : Shows P → Shows Q
  same-shows ok =
      record {
        in_a = λ a h. let k : a < P.combinations = rw s.combinations h in omega (arith, ok.in_a a k, s.show_a a k, s.rows_a);
        in_b = λ a h. let k : a < P.combinations = rw s.combinations h in omega (arith, ok.in_b a k, s.show_b a k, s.rows_b);
      }

  same-pair : Shows P → (T : List ℕ) → Pair P T → Pair Q T
  same-pair ok T p = record { tables = tables; fits = fits }
    where
      tables : Tables Q T
      tables = record { long = p.tables.long ∙ same_rows; bits = λ r h. p.tables.bits r (rw same_rows h) }

      fits : Fits Q T
      fits a h =
          let k : a < P.combinations = rw s.combinations h in
          let x : held T (P.show_a a) < 2 = p.tables.bits (P.show_a a) (omega (arith, ok.in_a a k)) in
          let y : held T (at_b P a) < 2 = p.tables.bits (at_b P a) (omega (arith, ok.in_b a k)) in
          cc (s.show_a a k, same-at_b a k, s.breaks a (held T (P.show_a a)) (held T (at_b P a)) k x y, p.fits a k)

module _ (P Q : Board) (ok : Shows P) (s : Same P Q) where
  pub step_same : (L M a : ℕ) → Step P L M a ↔ Step Q L M a
  step_same L M a = (same_step P Q s L M a, same_step Q P (same-sym P Q s) L M a)

  pub stands_same : (w : List Entry) → Stands P w ↔ Stands Q w
  stands_same w = (same-stands P Q s w, same-stands Q P (same-sym P Q s) w)

  pub pair_same : (T : List ℕ) → Pair P T ↔ Pair Q T
  pair_same T = (same-pair P Q s ok T, same-pair Q P (same-sym P Q s) (same-shows P Q s ok) T)

  pub first-same : (T : List ℕ) → First P T → First Q T
  first-same T f =
      record {
        pair = (pair_same T).0 f.pair;
        least = λ U p r h same. f.least U ((pair_same U).1 p) r (rw (same_rows P Q s) h) same;
      }
