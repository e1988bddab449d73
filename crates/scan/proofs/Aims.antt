-- The two claims at which a look aims are the ends of all steps from its claim by its combination.
-- Assumes nothing.
use Rattle.std.proofs.Common.{◌≡◌, ℕ, ◌+◌, ◌-◌, ◌*◌, ◌/◌, ◌%◌, ◌<◌, ◌≤◌, ◌⊎◌, List, length, sym, refl, ap, ◌∙◌, subst, inl, inr, ⊎_elim, arith, pow_pos, le-ltb, lt-ltb}
use mathlib.Core.Logic.{by_cases}
use borrow.Author.Tests.{eq-eqb, ne_eqb}
use native.Mathlib.Decide.{ℕ_discrete, dec_lt}
use lib.Count.{ones}
use Rattle.grid.specs.Grid.{claims, shown_a, shown_b, fault, Sound, bit}
use Rattle.grid.specs.Grid.{Grid}
use Rattle.grid.specs.declared.Shape.{Shape}
use Rattle.scan.specs.declared.Side.{Side}
use Rattle.scan.specs.Steps.{ShowsRow, Step, Aim, aim, aim_of, base, side, side_of, other_rows}
use Rattle.scan.specs.Steps.Step.{a-to-b, b-to-a}
use Rattle.scan.proofs.Sizes.{in-a, in-b}

pub step-within : {g : Grid} {l m a : ℕ} → Step g l m a → a < g.shape.combinations
step-within (a-to-b w l m f) = w
step-within (b-to-a w l m f) = w

-- a claim with a step by a is shown by a
pub step-shown : {g : Grid} {l m a : ℕ} → Step g l m a → ShowsRow g l a
step-shown (a-to-b w l m f) = inl l
step-shown (b-to-a w l m f) = inr l

-- a shown claim is one of the board's
pub shown-below : {g : Grid} {l a : ℕ} → Sound g → a < g.shape.combinations → ShowsRow g l a → l < claims g
shown-below {a = a} ok w s = ⊎_elim (λ e. omega (arith, in-a ok a w)) (λ e. omega (arith, in-b ok a w)) s

-- each step from l by a leads to `base`, with bit `low` set, or to the next claim, with bit `high` set
abbrev pub Ends : Grid → ℕ → ℕ → ℕ → ℕ → ℕ → Type 0
Ends g l a base low high =
    (m : ℕ) → Step g l m a → ((m ≡ base) × (bit (fault g a) low ≡ 1)) ⊎ ((m ≡ base + 1) × (bit (fault g a) high ≡ 1))

pub record Aims (g : Grid) (l a base low high : ℕ) : Type 0 where
  pub inside : base + 1 < claims g
  pub small_low : low < 8
  pub small_high : high < 8
  pub at_low : bit (fault g a) low ≡ 1 → Step g l base a
  pub at_high : bit (fault g a) high ≡ 1 → Step g l (base + 1) a
  pub all : Ends g l a base low high

-- a claim of row r is the row's claim 0 or the next
two : (r base m : ℕ) → base ≡ 2 * r → m / 2 ≡ r → ((m ≡ base) × (m % 2 ≡ 0)) ⊎ ((m ≡ base + 1) × (m % 2 ≡ 1))
two r base m e h = go (ℕ_discrete (m % 2) 0)
  where
    go : Dec (m % 2 ≡ 0) → ((m ≡ base) × (m % 2 ≡ 0)) ⊎ ((m ≡ base + 1) × (m % 2 ≡ 1))
    go (yes z) = inl (omega arith)
    go (no z) = inr (omega arith)

moved : (f i j : ℕ) → bit f i ≡ 1 → i ≡ j → bit f j ≡ 1
moved f i j h e = rw e at h

module _ {g : Grid} {l a base low high : ℕ} (ok : Sound g) (w : a < g.shape.combinations) where
  ends-a : l / 2 ≡ shown_a g a → base ≡ 2 * (g.shape.rows_a + shown_b g a) → low ≡ 2 * (l % 2) + 1 → high ≡ 2 * (l % 2) → Ends g l a base low high
  ends-a e p q r m (a-to-b _ _ n f) =
      ⊎_elim (λ z. inl (z.0, moved (fault g a) (2 * (l % 2) + (1 - m % 2)) low f (omega arith)))
      (λ z. inr (z.0, moved (fault g a) (2 * (l % 2) + (1 - m % 2)) high f (omega arith)))
      (two (g.shape.rows_a + shown_b g a) base m p n)
  ends-a e p q r m (b-to-a _ n _ _) = absurd (omega (arith, in-a ok a w))

  aims-a : l / 2 ≡ shown_a g a → (base ≡ 2 * (g.shape.rows_a + shown_b g a)) × (low ≡ 2 * (l % 2) + 1) × (high ≡ 2 * (l % 2)) → Aims g l a base low high
  aims-a e q = record {
    inside = omega (arith, in-b ok a w);
    small_low = omega arith;
    small_high = omega arith;
    at_low = λ f. a-to-b w e (omega arith) (moved (fault g a) low (2 * (l % 2) + (1 - base % 2)) f (omega arith));
    at_high = λ f. a-to-b w e (omega arith) (moved (fault g a) high (2 * (l % 2) + (1 - (base + 1) % 2)) f (omega arith));
    all = ends-a e q.0 q.1 q.2;
  }

  ends-b : l / 2 ≡ g.shape.rows_a + shown_b g a → base ≡ 2 * shown_a g a → low ≡ 2 + l % 2 → high ≡ l % 2 → Ends g l a base low high
  ends-b e p q r m (b-to-a _ _ n f) =
      ⊎_elim (λ z. inl (z.0, moved (fault g a) (2 * (1 - m % 2) + l % 2) low f (omega arith)))
      (λ z. inr (z.0, moved (fault g a) (2 * (1 - m % 2) + l % 2) high f (omega arith)))
      (two (shown_a g a) base m p n)
  ends-b e p q r m (a-to-b _ n _ _) = absurd (omega (arith, in-a ok a w))

  aims-b : l / 2 ≡ g.shape.rows_a + shown_b g a → (base ≡ 2 * shown_a g a) × (low ≡ 2 + l % 2) × (high ≡ l % 2) → Aims g l a base low high
  aims-b e q = record {
    inside = omega (arith, in-a ok a w);
    small_low = omega arith;
    small_high = omega arith;
    at_low = λ f. b-to-a w e (omega arith) (moved (fault g a) low (2 * (1 - base % 2) + l % 2) f (omega arith));
    at_high = λ f. b-to-a w e (omega arith) (moved (fault g a) high (2 * (1 - (base + 1) % 2) + l % 2) f (omega arith));
    all = ends-b e q.0 q.1 q.2;
  }

-- ---- by the cell of the claim

module _ (g : Grid) (own : Side) where
  pub other-b : own.first ≡ g.shape.rows_a → other_rows g own ≡ g.row_b
  unfolding other_rows
  other-b e = rw (eq-eqb own.first g.shape.rows_a e) refl

  pub other-a : (own.first ≡ g.shape.rows_a → ⊥) → other_rows g own ≡ g.row_a
  unfolding other_rows
  other-a n = rw (ne_eqb own.first g.shape.rows_a n) refl

abbrev pub side_a : Shape → ℕ → Side
side_a shape l = side shape.sees_a (l / 2) shape.rows_a (2 * (l % 2) + 1) (2 * (l % 2))

abbrev pub side_b : Shape → ℕ → Side
side_b shape l = side shape.sees_b (l / 2 - shape.rows_a) 0 (2 + l % 2) (l % 2)

module _ (shape : Shape) (l : ℕ) where
  pub of-a : l / 2 < shape.rows_a → side_of shape l ≡ side_a shape l
  unfolding side_of
  of-a h = rw (lt-ltb (l / 2) shape.rows_a h) refl

  pub of-b : shape.rows_a ≤ l / 2 → side_of shape l ≡ side_b shape l
  unfolding side_of
  of-b h = rw (le-ltb (l / 2) shape.rows_a h) refl

module _ (g : Grid) (l : ℕ) where
  aim-a : l / 2 < g.shape.rows_a → aim_of g l ≡ aim g.faults g.row_b (side_of g.shape l)
  unfolding aim_of
  aim-a h = rw (lt-ltb (l / 2) g.shape.rows_a h) refl

  aim-b : g.shape.rows_a ≤ l / 2 → aim_of g l ≡ aim g.faults g.row_a (side_of g.shape l)
  unfolding aim_of
  aim-b h = rw (le-ltb (l / 2) g.shape.rows_a h) refl

  -- what holds of both cells' aims holds of the claim's
  by-cell : (P : Aim → Type 0) → (l / 2 < g.shape.rows_a → P (aim g.faults g.row_b (side_a g.shape l))) → (g.shape.rows_a ≤ l / 2 → P (aim g.faults g.row_a (side_b g.shape l))) → P (aim_of g l)
  by-cell P p q =
      by_cases (dec_lt (l / 2) g.shape.rows_a) (λ h. subst P (sym (aim-a h ∙ ap (aim g.faults g.row_b) (of-a g.shape l h))) (p h))
      (λ h. subst P (sym (aim-b (omega arith) ∙ ap (aim g.faults g.row_a) (of-b g.shape l (omega arith)))) (q (omega arith)))

  pub aim-faults : (aim_of g l).faults ≡ g.faults
  aim-faults = by-cell (λ (v : Aim). v.faults ≡ g.faults) (λ h. refl) (λ h. refl)

  pub aim-long : Sound g → g.shape.combinations ≤ length (aim_of g l).other
  aim-long ok = by-cell (λ (v : Aim). g.shape.combinations ≤ length v.other) (λ h. ok.long_b) (λ h. ok.long_a)

  pub aims : {a : ℕ} → Sound g → a < g.shape.combinations → ShowsRow g l a → Aims g l a (base (aim_of g l) a) (aim_of g l).own.low (aim_of g l).own.high
  aims {a} ok w s =
      by-cell (λ (v : Aim). Aims g l a (base v a) v.own.low v.own.high)
      (λ h. ⊎_elim (λ e. aims-a ok w e (refl, refl, refl)) (λ e. absurd (omega arith)) s)
      (λ h. ⊎_elim (λ e. absurd (omega (arith, in-a ok a w))) (λ e. aims-b ok w e (omega arith, refl, refl)) s)

  -- the aim by the claim's side: where the other cell's first row is B's first it is of B, and else of A
  module _ {own : Side} (d : own ≡ side_of g.shape l) where
    pub to-b : Sound g → own.first ≡ g.shape.rows_a → aim_of g l ≡ aim g.faults g.row_b own
    to-b ok e =
        by_cases (dec_lt (l / 2) g.shape.rows_a) (λ h. aim-a h ∙ ap (aim g.faults g.row_b) (sym d))
        (λ h. absurd (omega (arith, ap (λ (s : Side). s.first) (d ∙ of-b g.shape l (omega arith)), ok.sizes.rows_a, pow_pos (ones g.shape.sees_a))))

    pub to-a : (own.first ≡ g.shape.rows_a → ⊥) → aim_of g l ≡ aim g.faults g.row_a own
    to-a e =
        by_cases (dec_lt (l / 2) g.shape.rows_a) (λ h. absurd (e (ap (λ (s : Side). s.first) (d ∙ of-a g.shape l h))))
        (λ h. aim-b (omega arith) ∙ ap (aim g.faults g.row_a) (sym d))

    pub to-other : {rows : List ℕ} → rows ≡ other_rows g own → Sound g → aim_of g l ≡ aim g.faults rows own
    to-other {rows} is ok =
        by_cases (ℕ_discrete own.first g.shape.rows_a) (λ e. to-b ok e ∙ ap (λ (ys : List ℕ). aim g.faults ys own) (sym (is ∙ other-b g own e)))
        (λ n. to-a n ∙ ap (λ (ys : List ℕ). aim g.faults ys own) (sym (is ∙ other-a g own n)))
