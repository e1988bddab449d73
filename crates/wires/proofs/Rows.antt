-- The laws of `shown`: a row is below 2 to the number of the wires seen, and is the same for two combinations exactly where they agree on those wires;
-- each row below that number is shown by some combination, the lowest of which is `placed`; who sees more wires can tell the row of who sees fewer.
-- Assumes nothing.
use Rattle.std.proofs.Common.{◌≡◌, ℕ, zero, suc, ◌+◌, ◌*◌, ◌/◌, ◌%◌, ◌^◌, ◌<◌, ◌≤◌, sym, refl, ap, ◌∙◌, ⊎_elim, suc-le-suc, le_of_suc-le-suc, not-suc-le-zero, zero-lt-suc, pow-suc, arith, pow_pos}
use mathlib.Core.Logic.{by_cases}
use native.Mathlib.Decide.{dec_le}
use lib.Arith.{le-zero, lt-one}
use lib.Count.{ones, ones_step, ones-le}
use lib.Bits.{bit_and}
use Rattle.wires.specs.Wires.{wire, before, shown, Agree, after, taken, placed}
use Rattle.wires.proofs.Digits.{low_digit, wire-low, wire-high, wire-and, half-below}

-- ---- one wire more

pub shown-off : (n seen a : ℕ) → seen % 2 ≡ 0 → shown (suc n) seen a ≡ shown n (seen / 2) (a / 2)
unfolding shown
shown-off n seen a e = ap (λ (d : ℕ). before d (a % 2) (shown n (seen / 2) (a / 2))) e

pub shown-on : (n seen a : ℕ) → seen % 2 ≡ 1 → shown (suc n) seen a ≡ shown n (seen / 2) (a / 2) * 2 + a % 2
unfolding shown
shown-on n seen a e = ap (λ (d : ℕ). before d (a % 2) (shown n (seen / 2) (a / 2))) e

pub rows-off : (seen : ℕ) → seen % 2 ≡ 0 → 2 ^ ones seen ≡ 2 ^ ones (seen / 2)
rows-off seen e = ap (λ (k : ℕ). 2 ^ k) (omega (arith, ones_step seen))

pub rows_on : (seen : ℕ) → seen % 2 ≡ 1 → 2 ^ ones seen ≡ 2 ^ ones (seen / 2) * 2
rows_on seen e = ap (λ (k : ℕ). 2 ^ k) same ∙ pow-suc 2 (ones (seen / 2))
  where
    same : ones seen ≡ suc (ones (seen / 2))
    same = omega (arith, ones_step seen)

-- ---- the bound

pub row_below : (n seen a : ℕ) → shown n seen a < 2 ^ ones seen
unfolding shown
row_below zero seen a = pow_pos (ones seen)
row_below (suc n) seen a =
    ⊎_elim (λ e. omega (arith, shown-off n seen a e, rows-off seen e, row_below n (seen / 2) (a / 2)))
    (λ e. omega (arith, shown-on n seen a e, rows_on seen e, row_below n (seen / 2) (a / 2)))
    (low_digit seen)

-- ---- the same row, and the same values of the wires seen

agree-high : (n seen a b : ℕ) → Agree (suc n) seen a b → Agree n (seen / 2) (a / 2) (b / 2)
agree-high n seen a b h p l s = sym (wire-high a p) ∙ h (suc p) (suc-le-suc l) (wire-high seen p ∙ s) ∙ wire-high b p

agree-low : (n seen a b : ℕ) → Agree (suc n) seen a b → seen % 2 ≡ 1 → a % 2 ≡ b % 2
agree-low n seen a b h e = sym (wire-low a) ∙ h 0 (zero-lt-suc n) (wire-low seen ∙ e) ∙ wire-low b

pub same_row : (n seen a b : ℕ) → Agree n seen a b → shown n seen a ≡ shown n seen b
unfolding shown
same_row zero seen a b h = refl
same_row (suc n) seen a b h =
    let ih = same_row n (seen / 2) (a / 2) (b / 2) (agree-high n seen a b h) in
    ⊎_elim (λ e. shown-off n seen a e ∙ ih ∙ sym (shown-off n seen b e))
    (λ e. omega (arith, shown-on n seen a e, ih, agree-low n seen a b h e, shown-on n seen b e))
    (low_digit seen)

rows-high : (n seen a b : ℕ) → shown (suc n) seen a ≡ shown (suc n) seen b → shown n (seen / 2) (a / 2) ≡ shown n (seen / 2) (b / 2)
rows-high n seen a b h =
    ⊎_elim (λ e. sym (shown-off n seen a e) ∙ h ∙ shown-off n seen b e) (λ e. omega (arith, shown-on n seen a e, shown-on n seen b e)) (low_digit seen)

pub same-wires : (n seen a b : ℕ) → shown n seen a ≡ shown n seen b → Agree n seen a b
same-wires zero seen a b h p l s = absurd (not-suc-le-zero l)
same-wires (suc n) seen a b h zero l s =
    let e : seen % 2 ≡ 1 = sym (wire-low seen) ∙ s in
    wire-low a ∙ omega (arith, shown-on n seen a e, shown-on n seen b e) ∙ sym (wire-low b)
same-wires (suc n) seen a b h (suc p) l s =
    wire-high a p
    ∙ same-wires n (seen / 2) (a / 2) (b / 2) (rows-high n seen a b h) p (le_of_suc-le-suc l) (sym (wire-high seen p) ∙ s)
    ∙ sym (wire-high b p)

-- ---- every row is shown

pub placed_off : (n seen row : ℕ) → seen % 2 ≡ 0 → placed (suc n) seen row ≡ placed n (seen / 2) row * 2 + 0
unfolding placed
placed_off n seen row e = ap (λ (d : ℕ). placed n (seen / 2) (after d row) * 2 + taken d row) e

pub placed_on : (n seen row : ℕ) → seen % 2 ≡ 1 → placed (suc n) seen row ≡ placed n (seen / 2) (row / 2) * 2 + row % 2
unfolding placed
placed_on n seen row e = ap (λ (d : ℕ). placed n (seen / 2) (after d row) * 2 + taken d row) e

placed-high-off : (n seen row : ℕ) → seen % 2 ≡ 0 → placed (suc n) seen row / 2 ≡ placed n (seen / 2) row
placed-high-off n seen row e = omega (arith, placed_off n seen row e)

placed-high-on : (n seen row : ℕ) → seen % 2 ≡ 1 → placed (suc n) seen row / 2 ≡ placed n (seen / 2) (row / 2)
placed-high-on n seen row e = omega (arith, placed_on n seen row e)

pub placed_below : (n seen row : ℕ) → placed n seen row < 2 ^ n
unfolding placed
placed_below zero seen row = omega arith
placed_below (suc n) seen row =
    ⊎_elim (λ e. omega (arith, placed_off n seen row e, placed_below n (seen / 2) row))
    (λ e. omega (arith, placed_on n seen row e, placed_below n (seen / 2) (row / 2)))
    (low_digit seen)

pub shown-placed : (n seen row : ℕ) → seen < 2 ^ n → row < 2 ^ ones seen → shown n seen (placed n seen row) ≡ row
unfolding shown
shown-placed zero seen row hs hr = omega (arith, none)
  where
    none : 2 ^ ones seen ≡ 1
    none = ap (λ (k : ℕ). 2 ^ k) (le-zero (ones-le 0 seen hs))
shown-placed (suc n) seen row hs hr =
    ⊎_elim
    (λ e. shown-off n seen (placed (suc n) seen row) e
    ∙ ap (shown n (seen / 2)) (placed-high-off n seen row e)
    ∙ shown-placed n (seen / 2) row (half-below n hs) (omega (arith, rows-off seen e)))
    (λ e. shown-on n seen (placed (suc n) seen row) e
    ∙ omega (arith, placed_on n seen row e, ap (shown n (seen / 2)) (placed-high-on n seen row e), shown-placed n (seen / 2) (row / 2) (half-below n hs) (omega (arith, rows_on seen e))))
    (low_digit seen)

pub every-row : (n seen row : ℕ) → seen < 2 ^ n → row < 2 ^ ones seen → (a : ℕ) × (a < 2 ^ n) × (shown n seen a ≡ row)
every-row n seen row hs hr = (placed n seen row, placed_below n seen row, shown-placed n seen row hs hr)

-- no lower combination shows the row
pub placed-least : (n seen row a : ℕ) → seen < 2 ^ n → a < 2 ^ n → shown n seen a ≡ row → placed n seen row ≤ a
unfolding placed
placed-least zero seen row a hs ha h = omega arith
placed-least (suc n) seen row a hs ha h =
    let ih : (r : ℕ) → shown n (seen / 2) (a / 2) ≡ r → placed n (seen / 2) r ≤ a / 2 = λ r. placed-least n (seen / 2) r (a / 2) (half-below n hs) (half-below n ha) in
    ⊎_elim (λ e. omega (arith, placed_off n seen row e, ih row (sym (shown-off n seen a e) ∙ h)))
    (λ e. let s = shown-on n seen a e in omega (arith, placed_on n seen row e, ih (row / 2) (omega arith)))
    (low_digit seen)

-- ---- who sees more

pub seen-also : (few more p : ℕ) → bit_and few more ≡ few → wire few p ≡ 1 → wire more p ≡ 1
seen-also few more p h s = omega (arith, wire-and few more p, ap (λ (x : ℕ). wire x p) h)

pub wider : (n few more a b : ℕ) → bit_and few more ≡ few → shown n more a ≡ shown n more b → shown n few a ≡ shown n few b
wider n few more a b h e = same_row n few a b (λ p l s. same-wires n more a b e p l (seen-also few more p h s))

-- so the row that the fewer wires show is a function of the row that the more show
pub narrowed : (n few more : ℕ) → more < 2 ^ n → bit_and few more ≡ few → (f : ℕ → ℕ) × ((a : ℕ) → shown n few a ≡ f (shown n more a))
narrowed n few more hm h = (
  λ row. shown n few (placed n more row),
  λ a. wider n few more a (placed n more (shown n more a)) h (sym (shown-placed n more (shown n more a) hm (row_below n more a))),
)

-- ---- positions above the mask show nothing, and have 0

pub shown-none : (m a : ℕ) → shown m 0 a ≡ 0
unfolding shown
shown-none zero a = refl
shown-none (suc m) a = shown-off m 0 a refl ∙ shown-none m (a / 2)

pub shown-zero : (n seen : ℕ) → shown n seen 0 ≡ 0
unfolding shown
shown-zero zero seen = refl
shown-zero (suc n) seen =
    ⊎_elim (λ e. shown-off n seen 0 e ∙ shown-zero n (seen / 2)) (λ e. omega (arith, shown-on n seen 0 e, shown-zero n (seen / 2))) (low_digit seen)

pub shown-more : (n m seen a : ℕ) → n ≤ m → seen < 2 ^ n → shown m seen a ≡ shown n seen a
unfolding shown
shown-more zero m seen a l h = ap (λ (s : ℕ). shown m s a) (lt-one h) ∙ shown-none m a
shown-more (suc n) zero seen a l h = absurd (not-suc-le-zero l)
shown-more (suc n) (suc m) seen a l h =
    let ih = shown-more n m (seen / 2) (a / 2) (le_of_suc-le-suc l) (half-below n h) in
    ⊎_elim (λ e. shown-off m seen a e ∙ ih ∙ sym (shown-off n seen a e))
    (λ e. omega (arith, shown-on m seen a e, ih, shown-on n seen a e))
    (low_digit seen)

-- so any number of positions that holds the mask shows the same
pub shown-any : (n m seen a : ℕ) → seen < 2 ^ n → seen < 2 ^ m → shown m seen a ≡ shown n seen a
shown-any n m seen a hn hm = by_cases (dec_le n m) (λ l. shown-more n m seen a l hn) (λ g. sym (shown-more m n seen a (omega arith) hm))

pub placed-none : (n row : ℕ) → placed n 0 row ≡ 0
unfolding placed
placed-none zero row = refl
placed-none (suc n) row = omega (arith, placed_off n 0 row refl, placed-none n row)

pub placed-more : (n m seen row : ℕ) → n ≤ m → seen < 2 ^ n → placed m seen row ≡ placed n seen row
unfolding placed
placed-more zero m seen row l h = ap (λ (s : ℕ). placed m s row) (lt-one h) ∙ placed-none m row
placed-more (suc n) zero seen row l h = absurd (not-suc-le-zero l)
placed-more (suc n) (suc m) seen row l h =
    let ih : (r : ℕ) → placed m (seen / 2) r ≡ placed n (seen / 2) r = λ r. placed-more n m (seen / 2) r (le_of_suc-le-suc l) (half-below n h) in
    ⊎_elim (λ e. omega (arith, placed_off m seen row e, ih row, placed_off n seen row e))
    (λ e. omega (arith, placed_on m seen row e, ih (row / 2), placed_on n seen row e))
    (low_digit seen)

-- so any number of positions that holds the mask gives the same combination
pub placed-any : (n m seen row : ℕ) → seen < 2 ^ n → seen < 2 ^ m → placed m seen row ≡ placed n seen row
placed-any n m seen row hn hm = by_cases (dec_le n m) (λ l. placed-more n m seen row l hn) (λ g. sym (placed-more m n seen row (omega arith) hm))
