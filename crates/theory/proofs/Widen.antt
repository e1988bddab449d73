-- The widened table fits, there is one, and there is only one.
-- Assumes nothing.
use mathlib.Core.Path.{◌≡◌, refl, ◌∙◌, sym}
use mathlib.Core.Bool.{Bool, true, false}
use mathlib.Core.List.{List}
use mathlib.Core.Logic.{◌⊎◌, inl, inr}
use Prim.Native.Nat.{ℕ, ◌+◌, ◌-◌, ◌<◌}
use native.Mathlib.Decide.{dec_lt}
use native.Mathlib.Omega.{arith}
use lib.Seq.{ext_get_or}
use Rattle.std.specs.Prelude.{map}
use Rattle.std.specs.List.{range_with_len}
use Rattle.std.proofs.lemmas.List.FromFn.{length-map-range_with_len, get_or-map-range_with_len}
use Rattle.board.specs.Board.{Board, Shows, rows, at_b}
use Rattle.board.specs.Tables.{held, Tables, Fits, Pair}
use Rattle.theory.specs.Widen.{AsksNoMore, Widened}
use Rattle.board.proofs.Finite.{choose, choose_yes, choose_no}

module _ (P Q : Board) (narrow_a narrow_b : ℕ → ℕ) where
  -- a row of the board is a row of A, or a row of B behind those
  row_of : (r : ℕ) → r < rows Q → (r < Q.rows_a) ⊎ ((s : ℕ) × (s < Q.rows_b) × (r ≡ Q.rows_a + s))
  row_of r h = elim (dec_lt r Q.rows_a) [ yes a ↦ inl a | no n ↦ inr (r - Q.rows_a, omega arith, omega arith) ]

  -- the widened table is determined
  pub widened-unique : (T U W : List ℕ) → Widened P Q narrow_a narrow_b T U → Widened P Q narrow_a narrow_b T W → U ≡ W
  widened-unique T U W u w = ext_get_or 0 U W (u.long ∙ sym w.long) λ i h. go i (row_of i (rw u.long at h))
    where
      go : (i : ℕ) → (i < Q.rows_a) ⊎ ((s : ℕ) × (s < Q.rows_b) × (i ≡ Q.rows_a + s)) → held U i ≡ held W i
      go i (inl a) = u.of_a i a ∙ sym (w.of_a i a)
      go i (inr t) = rw t.2 (u.of_b t.0 t.1 ∙ sym (w.of_b t.0 t.1))

  -- there is one
  pub widen : List ℕ → List ℕ
  widen T = map (λ r. choose (dec_lt r Q.rows_a) (held T (narrow_a r)) (held T (P.rows_a + narrow_b (r - Q.rows_a)))) (range_with_len 0 (rows Q))

  pub widen-widened : (T : List ℕ) → Widened P Q narrow_a narrow_b T (widen T)
  unfolding widen
  widen-widened T = record { long = length-map-range_with_len f 0 (rows Q); of_a = of_a; of_b = of_b }
    where
      f : ℕ → ℕ
      f r = choose (dec_lt r Q.rows_a) (held T (narrow_a r)) (held T (P.rows_a + narrow_b (r - Q.rows_a)))

      of_a : (r : ℕ) → r < Q.rows_a → held (widen T) r ≡ held T (narrow_a r)
      of_a r h = get_or-map-range_with_len f 0 (rows Q) r r 0 (omega arith) (omega arith) ∙ choose_yes (dec_lt r Q.rows_a) (held T (narrow_a r)) (held T (P.rows_a + narrow_b (r - Q.rows_a))) h

      of_b : (r : ℕ) → r < Q.rows_b → held (widen T) (Q.rows_a + r) ≡ held T (P.rows_a + narrow_b r)
      of_b r h =
          let e : Q.rows_a + r - Q.rows_a ≡ r = omega arith in
          get_or-map-range_with_len f 0 (rows Q) (Q.rows_a + r) (Q.rows_a + r) 0 (omega arith) (omega arith)
          ∙ choose_no (dec_lt (Q.rows_a + r) Q.rows_a) (held T (narrow_a (Q.rows_a + r))) (held T (P.rows_a + narrow_b (Q.rows_a + r - Q.rows_a))) (omega arith)
          ∙ rw e

  -- and it fits
  module _ (shows : Shows Q) (less : AsksNoMore P Q narrow_a narrow_b) (T U : List ℕ) (pair : Pair P T) (widened : Widened P Q narrow_a narrow_b T U) where
    widened-tables : Tables Q U
    widened-tables = record { long = widened.long; bits = λ r h. go r (row_of r h) }
      where
        go : (r : ℕ) → (r < Q.rows_a) ⊎ ((s : ℕ) × (s < Q.rows_b) × (r ≡ Q.rows_a + s)) → held U r < 2
        go r (inl a) = rw (widened.of_a r a) (pair.tables.bits (narrow_a r) (omega (arith, less.in_a r a)))
        go r (inr t) = rw (t.2, widened.of_b t.0 t.1) (pair.tables.bits (P.rows_a + narrow_b t.0) (omega (arith, less.in_b t.0 t.1)))

    widened-fits : Fits Q U
    widened-fits a h = go (Q.breaks a (held U (Q.show_a a)) (held U (at_b Q a))) refl
      where
        go : (b : Bool) → Q.breaks a (held U (Q.show_a a)) (held U (at_b Q a)) ≡ b → Q.breaks a (held U (Q.show_a a)) (held U (at_b Q a)) ≡ false
        go false e = e
        go true e =
            let p : P.breaks a (held T (P.show_a a)) (held T (at_b P a)) ≡ false = pair.fits a (rw less.combinations h) in
            let q : P.breaks a (held U (Q.show_a a)) (held U (at_b Q a)) ≡ true = less.breaks a (held U (Q.show_a a)) (held U (at_b Q a)) h e in
            cc (less.shows_a a h, less.shows_b a h, widened.of_a (Q.show_a a) (shows.in_a a h), widened.of_b (Q.show_b a) (shows.in_b a h))

    pub widened-pair : Pair Q U
    widened-pair = record { tables = widened-tables; fits = widened-fits }
