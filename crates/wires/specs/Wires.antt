-- Wires, combinations and rows (document 01, "Numbers used", its first four points).
--     wire      the value of a wire in a combination
--     shown     the row that a combination shows to a cell
--     Agree     two combinations with the same values at the wires seen
--     placed    a combination that shows a given row
-- A set of wires is a mask, with the digit 1 at each position in the set; how many wires it has is `ones` of `lib.Count`, so a cell that sees the
-- wires of `seen` has 2 ^ ones seen rows. Assumes nothing.
use Rattle.std.specs.Prelude.{◌≡◌, ℕ, zero, suc, ◌+◌, ◌*◌, ◌/◌, ◌%◌, ◌^◌, ◌<◌}

-- A combination is 0 to 2^n − 1; the wire at position p has weight 2^p.
abbrev pub wire : ℕ → ℕ → ℕ
wire a p = a / 2 ^ p % 2

-- the value b of a wire before the row r of those above it: it counts as the row's lowest digit where the wire is seen, and not at all where it is not
abbrev pub before : ℕ → ℕ → ℕ → ℕ
before zero b r = r
before (suc d) b r = r * 2 + b

-- The row shown by a combination: take the values of the seen wires only, lowest position first with weights 1, 2, 4 and so on. A cell with no wires
-- has one row. The first argument is how many positions are looked at.
unfoldable pub shown : ℕ → ℕ → ℕ → ℕ
shown zero seen a = 0
shown (suc n) seen a = before (seen % 2) (a % 2) (shown n (seen / 2) (a / 2))

-- the combinations a and b have the same value at each of the first n wires that is seen
abbrev pub Agree : ℕ → ℕ → ℕ → ℕ → Type 0
Agree n seen a b = (p : ℕ) → p < n → wire seen p ≡ 1 → wire a p ≡ wire b p

-- the digits of a row that are left after the lowest wire, whose digit of the mask is d, has taken its own, and the digit that it takes
abbrev pub after : ℕ → ℕ → ℕ
after zero row = row
after (suc d) row = row / 2

abbrev pub taken : ℕ → ℕ → ℕ
taken zero row = 0
taken (suc d) row = row % 2

-- the combination that shows the row to a cell that sees the wires of `seen`, and has 0 at every other wire
unfoldable pub placed : ℕ → ℕ → ℕ → ℕ
placed zero seen row = 0
placed (suc n) seen row = placed n (seen / 2) (after (seen % 2) row) * 2 + taken (seen % 2) row
