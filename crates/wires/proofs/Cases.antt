-- Worked examples of the definitions of `specs/`, as antt computes them. Assumes nothing.
use Rattle.std.proofs.Common.{◌≡◌, refl}
use Rattle.wires.specs.Wires.{shown, placed}
use Rattle.wires.specs.Terms.{value}

-- the wires 1, 2 and 4 are seen, and have the values 1, 1 and 0
row-of-three : shown 5 0b10110 0b00110 ≡ 0b011
unfolding shown
row-of-three = refl

-- what the unseen wires 0 and 3 have is not shown
row-hides : shown 5 0b10110 0b01111 ≡ 0b011
unfolding shown
row-hides = refl

placed-back : placed 5 0b10110 0b101 ≡ 0b10010
unfolding placed
placed-back = refl

-- three wires, then cell A and cell B
value-wire : value 3 0b100 1 0 2 ≡ 1
unfolding value
value-wire = refl

value-cell-a : value 3 0b100 1 0 3 ≡ 1
unfolding value
value-cell-a = refl

value-cell-b : value 3 0b100 1 0 4 ≡ 0
unfolding value
value-cell-b = refl
