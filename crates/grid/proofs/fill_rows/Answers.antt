-- `grid::fill_rows` meets its contract, by its invariant. Assumes nothing.
use mathlib.Core.Path.{◌≡◌, refl, sym, ap, ◌∙◌, subst}
use mathlib.Core.Logic.{⊎_elim, by_cases}
use mathlib.Core.List.{List}
use Prim.Native.Nat.{ℕ, suc, ◌+◌, ◌-◌, ◌*◌, ◌/◌, ◌^◌, ◌≤◌, ◌<◌}
use native.Mathlib.Nat.{one-mul, zero-mul}
use native.Mathlib.Numerals.{add-one}
use native.Mathlib.Decide.{dec_le}
use native.Mathlib.Omega.{arith}
use lib.Arith.{lt-one}
use lib.Pow.{pow_pos, pow_mono}
use lib.ListN.{length, get_or, set, length-set}
use lib.Seq.{get_or-set_same}
use Rattle.wires.specs.Wires.{wire, shown}
use Rattle.wires.proofs.Digits.{low_digit}
use Rattle.grid.specs.Filled.{Doubles, Doubled, Asks}
use Rattle.grid.proofs.Doubling.{weight as weight-at, weight-none, row_within, first-half, second-half, weight-same, weight-next, weight-most}
use Rattle.grid.proofs.fill_rows.Invariants.{Inv}
use Rattle.grid.proofs.fill_rows.Goals as goal
use Rattle.grid.proofs.fill_rows.Goals.{then-seen-p-eq1, else-seen-p-eq1}

-- ---- before the loop: no wire, one combination
start : (seen : ℕ) (s : List ℕ) → 0 < length s → Inv seen 0 1 1 (set s 0 0)
unfolding shown
start seen s h = record {
  sizes = refl;
  weighs = sym (weight-none seen);
  rows = λ a l. ap (λ (x : ℕ). get_or (set s 0 0) x 0) (lt-one l) ∙ get_or-set_same s 0 0 0 h;
}

-- ---- a turn: the wire at position p, with the digit w in the seen set
module _ (wires seen : ℕ) (s : List ℕ) (h : Asks wires seen s) (p size weight : ℕ) (t : List ℕ) (v : Inv seen p size weight t) (l : p < wires) where
  room : length t ≡ length s → size + size ≤ length t
  room e = omega (arith, pow_mono l)

  fits_on : length t ≡ length s → wire seen p ≡ 1 → Doubles t size weight
  fits_on same e = record {
    room = room same;
    fits = λ i k. omega (arith, v.rows i (omega arith), row_within p seen i, weight-next p seen e, weight-most (suc p) seen h.few_seen);
  }

  fits-off : length t ≡ length s → Doubles t size 0
  fits-off same = record {
    room = room same;
    fits = λ i k. omega (arith, v.rows i (omega arith), row_within p seen i, weight-most p seen h.few_seen);
  }

  small : wire seen p ≡ 1 → weight * 2 ≤ 256
  small e = omega (arith, weight-next p seen e, weight-most (suc p) seen h.few_seen)

  size_fits : size * 2 ≤ 2 ^ 14
  size_fits = omega (arith, pow_mono l, pow_mono {j = 14} h.few)

  module _ (w next : ℕ) (u : List ℕ) (e : wire seen p ≡ w) (d : Doubled t u size (w * weight)) (n : next ≡ weight-at (suc p) seen) where
    at_low : (a : ℕ) → a < 2 ^ p → get_or u a 0 ≡ shown (suc p) seen a
    at_low a k = d.low a (omega arith) ∙ v.rows a k ∙ sym (first-half p seen a k)

    at_high : (i : ℕ) → i < 2 ^ p → get_or u (2 ^ p + i) 0 ≡ shown (suc p) seen (2 ^ p + i)
    at_high i k =
        ap (λ (z : ℕ). get_or u (z + i) 0) (sym v.sizes)
        ∙ d.high i (omega arith)
        ∙ omega (arith, v.rows i k, second-half p seen i w k e, ap (λ (x : ℕ). w * x) v.weighs)

    at_each : (a : ℕ) → a < 2 ^ suc p → get_or u a 0 ≡ shown (suc p) seen a
    at_each a k =
        by_cases (dec_le (2 ^ p) a)
        (λ g. subst (λ (x : ℕ). get_or u x 0 ≡ shown (suc p) seen x) (above g) (at_high (a - 2 ^ p) (omega arith)))
        (λ g. at_low a (omega arith))
      where
        above : 2 ^ p ≤ a → 2 ^ p + (a - 2 ^ p) ≡ a
        above g = omega arith

    turned : Inv seen (suc p) (size * 2) next u
    turned = record { sizes = omega arith; weighs = n; rows = at_each }

    turn : Inv seen (p + 1) (size * 2) next u
    turn = rw (add-one p) turned

  -- with the wire seen, and with it not seen
  module _ (next : ℕ) (r u : List ℕ) (same : r ≡ u) where
    turn_on : wire seen p ≡ 1 → Doubled t u size weight → next ≡ weight * 2 → Inv seen (p + 1) (size * 2) next r
    turn_on e d n = turn 1 next r e step (omega (arith, weight-next p seen e))
      where
        step : Doubled t r size (1 * weight)
        step = rw (same, one-mul) d

    turn-off : (wire seen p ≡ 1 → ⊥) → Doubled t u size 0 → next ≡ weight → Inv seen (p + 1) (size * 2) next r
    turn-off g d n = turn 0 next r off step (omega (arith, weight-same p seen off))
      where
        off : wire seen p ≡ 0
        off = ⊎_elim (λ e. e) (λ e. absurd (g e)) (low_digit (seen / 2 ^ p))

        step : Doubled t r size (0 * weight)
        step = rw (same, zero-mul) d

pub bounds-rows-0 : goal.bounds-rows-0
bounds-rows-0 c = omega (arith, pow_pos c.args.wires)

pub loop-p-init : goal.loop-p-init
loop-p-init c = start _ _ (omega (arith, pow_pos c.args.wires))

pub overflow_cast-weight : goal.overflow_cast-weight
overflow_cast-weight c = omega (arith, small _ _ _ c.requires _ _ _ _ c.loop-p.invariant (omega arith) c.if-seen-p-eq1.true)

pub overflow_mul-weight : goal.overflow_mul-weight
overflow_mul-weight c = omega (arith, small _ _ _ c.requires _ _ _ _ c.loop-p.invariant (omega arith) c.if-seen-p-eq1.true)

pub double-requires : goal.double-requires
double-requires c = fits_on _ _ _ c.requires _ _ _ _ c.loop-p.invariant (omega arith) (c.loop-p.auto.rows ∙ length-set c.args.rows.now 0 0) c.if-seen-p-eq1.true

pub double-requires-else-seen-p-eq1 : goal.double-requires-else-seen-p-eq1
double-requires-else-seen-p-eq1 c = fits-off _ _ _ c.requires _ _ _ _ c.loop-p.invariant (omega arith) (c.loop-p.auto.rows ∙ length-set c.args.rows.now 0 0)

pub overflow_mul-size : goal.overflow_mul-size
overflow_mul-size c = omega (arith, size_fits _ _ _ c.requires _ _ _ _ c.loop-p.invariant (omega arith))

pub loop-p-preserved : goal.loop-p-preserved
loop-p-preserved c = elim c.if-seen-p-eq1.branch [
  | then-seen-p-eq1 w ↦ turn_on _ _ _ c.requires _ _ _ _ c.loop-p.invariant (omega arith) _ _ _ w.rows-is w.if-seen-p-eq1.true w.double.ensures w.weight-is
  | else-seen-p-eq1 w ↦ turn-off _ _ _ c.requires _ _ _ _ c.loop-p.invariant (omega arith) _ _ _ w.rows-is w.if-seen-p-eq1.false w.double-else-seen-p-eq1.ensures w.weight-is
]

pub returns : goal.returns
returns c = let last : c.loop-p.p ≡ c.args.wires = omega arith in record {
  long = c.loop-p.auto.rows ∙ length-set c.args.rows.now 0 0;
  rows = rw (sym last) c.loop-p.invariant.rows;
}
