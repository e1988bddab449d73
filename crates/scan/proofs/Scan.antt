-- The combinations that show the row of a claim: the k-th of them is the row placed at the wires seen, with the k-th part of the wires not seen.
-- Each is one of these, they rise with k, and none lies between two neighbours.
-- Assumes nothing.
use Rattle.std.proofs.Common.{◌≡◌, ℕ, zero, suc, ◌+◌, ◌-◌, ◌/◌, ◌^◌, ◌<◌, ◌≤◌, sym, ap, ◌∙◌, subst, ap₂, inl, inr, ⊎_elim, arith, pow_pos}
use mathlib.Core.Logic.{by_cases}
use native.Mathlib.Decide.{dec_lt}
use lib.Count.{ones}
use Rattle.wires.specs.Wires.{shown, placed}
use Rattle.wires.proofs.Rows.{row_below, shown-placed}
use Rattle.wires.proofs.Parts.{parts-of, part-shows, part-below, part-rises, part-first, part-last}
use Rattle.grid.specs.Grid.{claims, Sound}
use Rattle.grid.specs.Grid.{Grid}
use Rattle.scan.specs.Steps.{ShowsRow, Aim, aim_of, side_of}
use Rattle.scan.specs.Reach.{Store, Looks, Looked, Asks, Swept}
use Rattle.scan.specs.declared.Side.{Side}
use Rattle.scan.proofs.Sizes.{in-a}
use Rattle.scan.proofs.Aims.{of-a, of-b}
use Rattle.scan.proofs.Looked.{Turn, turn-asks}
use Rattle.scan.proofs.Sweep.{Sweep, sweep-start, sweep-ask, sweep-look, sweep-to, sweep-done}

-- the row of a claim's own cell: a combination shows it exactly if it shows the claim's row
pub record Own (g : Grid) (l seen row : ℕ) : Type 0 where
  pub mask : seen < g.shape.combinations
  pub low : row < 2 ^ ones seen
  pub to : (a : ℕ) → a < g.shape.combinations → ShowsRow g l a → shown g.shape.wires seen a ≡ row
  pub from : (a : ℕ) → a < g.shape.combinations → shown g.shape.wires seen a ≡ row → ShowsRow g l a

module _ {g : Grid} {l : ℕ} (ok : Sound g) (inside : l < claims g) where
  own-a : l / 2 < g.shape.rows_a → Own g l g.shape.sees_a (l / 2)
  own-a h = record {
    mask = omega (arith, ok.sizes.mask_a, ok.sizes.combinations);
    low = omega (arith, ok.sizes.rows_a);
    to = λ a w z. ⊎_elim (λ q. sym (ok.is_a a w) ∙ omega arith) (λ q. absurd (omega arith)) z;
    from = λ a w q. inl (omega (arith, ok.is_a a w));
  }

  own-b : g.shape.rows_a ≤ l / 2 → Own g l g.shape.sees_b (l / 2 - g.shape.rows_a)
  own-b h = record {
    mask = omega (arith, ok.sizes.mask_b, ok.sizes.combinations);
    low = omega (arith, ok.sizes.rows_b);
    to = λ a w z. ⊎_elim (λ q. absurd (omega (arith, in-a ok a w))) (λ q. sym (ok.is_b a w) ∙ omega arith) z;
    from = λ a w q. inr (omega (arith, ok.is_b a w));
  }

  pub own : {side : Side} → side ≡ side_of g.shape l → Own g l side.seen side.row
  own d =
      by_cases (dec_lt (l / 2) g.shape.rows_a) (λ h. subst (λ (s : Side). Own g l s.seen s.row) (sym (d ∙ of-a g.shape l h)) (own-a h))
      (λ h. subst (λ (s : Side). Own g l s.seen s.row) (sym (d ∙ of-b g.shape l (omega arith))) (own-b (omega arith)))

-- the k-th combination that shows the row, and the place after the first k of them
abbrev pub spot : ℕ → ℕ → ℕ → ℕ → ℕ → ℕ
spot n seen unseen row k = placed n seen row + placed n unseen k

unfoldable pub after : ℕ → ℕ → ℕ → ℕ → ℕ → ℕ
after n seen unseen row zero = 0
after n seen unseen row (suc k) = spot n seen unseen row k + 1

module _ {g : Grid} {l seen row : ℕ} (unseen : ℕ) (ok : Sound g) (o : Own g l seen row) (rest : seen + unseen + 1 ≡ g.shape.combinations) where
  sum : seen + unseen + 1 ≡ 2 ^ g.shape.wires
  sum = rest ∙ ok.sizes.combinations

  spot-within : (k : ℕ) → spot g.shape.wires seen unseen row k < g.shape.combinations
  spot-within k = omega (arith, part-below g.shape.wires seen unseen row k sum, ok.sizes.combinations)

  spot-shows : (k : ℕ) → ShowsRow g l (spot g.shape.wires seen unseen row k)
  spot-shows k = o.from (spot g.shape.wires seen unseen row k) (spot-within k) (part-shows g.shape.wires seen unseen row k sum o.low)

  spot_is : (a : ℕ) → a < g.shape.combinations → ShowsRow g l a → spot g.shape.wires seen unseen row (shown g.shape.wires unseen a) ≡ a
  spot_is a w z = ap (λ (r : ℕ). placed g.shape.wires seen r + placed g.shape.wires unseen (shown g.shape.wires unseen a)) (sym (o.to a w z)) ∙ parts-of g.shape.wires seen unseen a sum (omega (arith, ok.sizes.combinations))

  rises : (k j : ℕ) → k < j → j < 2 ^ ones unseen → spot g.shape.wires seen unseen row k < spot g.shape.wires seen unseen row j
  rises k j h m = omega (arith, part-rises g.shape.wires unseen k j (omega arith) h m)

  -- one that comes after the first k is the k-th or a later one
  later : (k a : ℕ) → k ≤ 2 ^ ones unseen → after g.shape.wires seen unseen row k ≤ a → a < g.shape.combinations → ShowsRow g l a → k ≤ shown g.shape.wires unseen a
  unfolding after
  later zero a m h w z = omega arith
  later (suc k) a m h w z =
      by_cases (dec_lt k (shown g.shape.wires unseen a)) (λ p. p)
      (λ p. by_cases (dec_lt (shown g.shape.wires unseen a) k) (λ q. absurd (omega (arith, rises (shown g.shape.wires unseen a) k q m, spot_is a w z)))
      (λ q. absurd (omega (arith, spot_is a w z, ap (placed g.shape.wires unseen) (same p q)))))
    where
      same : (k < shown g.shape.wires unseen a → ⊥) → (shown g.shape.wires unseen a < k → ⊥) → shown g.shape.wires unseen a ≡ k
      same p q = omega arith

  before-spot : (k : ℕ) → k < 2 ^ ones unseen → after g.shape.wires seen unseen row k ≤ spot g.shape.wires seen unseen row k
  unfolding after
  before-spot zero m = omega arith
  before-spot (suc k) m = omega (arith, rises k (suc k) (omega arith) m)

  after-within : (k : ℕ) → after g.shape.wires seen unseen row k ≤ g.shape.combinations
  unfolding after
  after-within zero = omega arith
  after-within (suc k) = omega (arith, spot-within k)

  -- none lies between the place after the first k and the k-th
  none_before : (k : ℕ) → k < 2 ^ ones unseen → (a : ℕ) → after g.shape.wires seen unseen row k ≤ a → a < spot g.shape.wires seen unseen row k → ShowsRow g l a → ⊥
  none_before k m a h p z =
      by_cases (dec_lt k (shown g.shape.wires unseen a)) (λ q. absurd (omega (arith, rises k (shown g.shape.wires unseen a) q (row_below g.shape.wires unseen a), spot_is a w z)))
      (λ q. absurd (omega (arith, spot_is a w z, ap (placed g.shape.wires unseen) (same q))))
    where
      w : a < g.shape.combinations
      w = omega (arith, spot-within k)

      same : (k < shown g.shape.wires unseen a → ⊥) → shown g.shape.wires unseen a ≡ k
      same q = omega (arith, later k a (omega arith) h w z)

  module _ {s : Store} {tail : ℕ} {t : Store} {last : ℕ} where
    to-spot : (k : ℕ) → k < 2 ^ ones unseen → Sweep g s tail l t last (after g.shape.wires seen unseen row k) → Sweep g s tail l t last (spot g.shape.wires seen unseen row k)
    to-spot k m w = sweep-to (before-spot k m) (none_before k m) w

    by-spot : {u : Store} {end : ℕ} (k : ℕ) → Turn g t last l (spot g.shape.wires seen unseen row k) → Sweep g s tail l t last (spot g.shape.wires seen unseen row k) → Looked (aim_of g l) t last l (spot g.shape.wires seen unseen row k) u end → Sweep g s tail l u end (after g.shape.wires seen unseen row (k + 1))
    unfolding after
    by-spot {u} {end} k z w q = subst (λ (j : ℕ). Sweep g s tail l u end (after g.shape.wires seen unseen row j)) (next k) (sweep-look w z q)
      where
        next : (k : ℕ) → suc k ≡ k + 1
        next k = omega arith

    to_end : Sweep g s tail l t last (after g.shape.wires seen unseen row (2 ^ ones unseen)) → Swept g s tail l t last
    to_end w = sweep-done (sweep-to (after-within (2 ^ ones unseen)) none w)
      where
        none : (a : ℕ) → after g.shape.wires seen unseen row (2 ^ ones unseen) ≤ a → a < g.shape.combinations → ShowsRow g l a → ⊥
        none a h p z = omega (arith, later (2 ^ ones unseen) a (omega arith) h p z, row_below g.shape.wires unseen a)

-- The loop after k turns, with more to come: `part` is the k-th part of the wires not seen, and what comes before the place after the first k has been looked at.
pub record Scan (g : Grid) (s : Store) (tail l unseen lowest : ℕ) (t : Store) (last part : ℕ) : Type 0 where
  pub seen : ℕ
  pub row : ℕ
  pub own : Own g l seen row
  pub rest : seen + unseen + 1 ≡ g.shape.combinations
  pub start : lowest ≡ placed g.shape.wires seen row
  pub turns : ℕ
  pub at : part ≡ placed g.shape.wires unseen turns
  pub goes : turns < 2 ^ ones unseen
  pub sweep : Sweep g s tail l t last (after g.shape.wires seen unseen row turns)

-- how many turns are left
abbrev pub left : ℕ → ℕ → ℕ → ℕ
left n unseen part = 2 ^ ones unseen - shown n unseen part

module _ {g : Grid} {s : Store} {tail l unseen lowest : ℕ} (ok : Sound g) (q : Asks g s tail l) where
  pub scan-start : {seen row : ℕ} → Own g l seen row → seen + unseen + 1 ≡ g.shape.combinations → lowest ≡ placed g.shape.wires seen row → Scan g s tail l unseen lowest s tail 0
  unfolding after
  scan-start {seen} {row} o r e = record {
    seen = seen;
    row = row;
    own = o;
    rest = r;
    start = e;
    turns = 0;
    at = sym (part-first g.shape.wires unseen);
    goes = pow_pos (ones unseen);
    sweep = sweep-start q.reach;
  }

  module _ {t : Store} {last part : ℕ} (w : Scan g s tail l unseen lowest t last part) where
    spot-now : lowest + part ≡ spot g.shape.wires w.seen unseen w.row w.turns
    spot-now = ap₂ ◌+◌ w.start w.at

    pub scan-within : lowest + part < g.shape.combinations
    scan-within = omega (arith, spot-now, spot-within unseen ok w.own w.rest w.turns)

    swept : Sweep g s tail l t last (lowest + part)
    swept = rw spot-now (to-spot unseen ok w.own w.rest w.turns w.goes w.sweep)

    turn : Turn g t last l (lowest + part)
    turn = sweep-ask swept ok q scan-within (rw spot-now (spot-shows unseen ok w.own w.rest w.turns))

    pub scan-ask : {v : Aim} → aim_of g l ≡ v → Looks v t last l (lowest + part)
    scan-ask e = subst (λ (v : Aim). Looks v t last l (lowest + part)) e (turn-asks turn)

    module _ {next : ℕ} (e : next ≡ placed g.shape.wires unseen (w.turns + 1)) where
      goes_on : (next ≡ 0 → ⊥) → w.turns + 1 < 2 ^ ones unseen
      goes_on n =
          by_cases (dec_lt (w.turns + 1) (2 ^ ones unseen)) (λ l. l)
          (λ l. absurd (n (e ∙ ap (placed g.shape.wires unseen) (full l) ∙ part-last g.shape.wires unseen)))
        where
          full : (w.turns + 1 < 2 ^ ones unseen → ⊥) → w.turns + 1 ≡ 2 ^ ones unseen
          full l = omega (arith, w.goes)

      ends_now : next ≡ 0 → w.turns + 1 ≡ 2 ^ ones unseen
      ends_now z =
          by_cases (dec_lt (w.turns + 1) (2 ^ ones unseen))
          (λ l. absurd (omega (arith, z, e, part-first g.shape.wires unseen, part-rises g.shape.wires unseen 0 (w.turns + 1) (omega (arith, w.rest, ok.sizes.combinations)) (omega arith) l)))
          (λ l. omega (arith, w.goes))

      module _ {v : Aim} {u : Store} {end : ℕ} (f : aim_of g l ≡ v) (z : Looked v t last l (lowest + part) u end) where
        onward : Sweep g s tail l u end (after g.shape.wires w.seen unseen w.row (w.turns + 1))
        onward = by-spot unseen ok w.own w.rest w.turns (rw spot-now at turn) (rw spot-now at swept) (rw spot-now at same)
          where
            same : Looked (aim_of g l) t last l (lowest + part) u end
            same = subst (λ (v : Aim). Looked v t last l (lowest + part) u end) (sym f) z

        pub scan-turn : (next ≡ 0 → ⊥) → Scan g s tail l unseen lowest u end next
        scan-turn n = record {
          seen = w.seen;
          row = w.row;
          own = w.own;
          rest = w.rest;
          start = w.start;
          turns = w.turns + 1;
          at = e;
          goes = goes_on n;
          sweep = onward;
        }

        pub scan-done : next ≡ 0 → Swept g s tail l u end
        scan-done h = to_end unseen ok w.own w.rest (subst (λ (j : ℕ). Sweep g s tail l u end (after g.shape.wires w.seen unseen w.row j)) (ends_now h) onward)

      -- the parts before it are as many as the turns
      many : (part k : ℕ) → part ≡ placed g.shape.wires unseen k → k < 2 ^ ones unseen → shown g.shape.wires unseen part ≡ k
      many part k h z = ap (shown g.shape.wires unseen) h ∙ shown-placed g.shape.wires unseen k (omega (arith, w.rest, ok.sizes.combinations)) z

      pub scan-less : (next ≡ 0 → ⊥) → left g.shape.wires unseen next < left g.shape.wires unseen part
      scan-less n = omega (arith, many part w.turns w.at w.goes, many next (w.turns + 1) e (goes_on n), goes_on n)
