-- Four digits cut out of a word, as the faults of a combination are cut out of the table: each is the word's digit at its place. Assumes nothing.
use mathlib.Core.Path.{◌≡◌, sym, ap, ◌∙◌}
use Prim.Native.Nat.{ℕ, ◌+◌, ◌/◌, ◌%◌, ◌^◌, ◌<◌}
use lib.Pow.{shr-shr, split}
use Rattle.wires.specs.Wires.{wire}
use Rattle.wires.proofs.Digits.{wire-below}

-- the lowest four digits of a number are its own
pub four : (m k : ℕ) → k < 4 → wire (m % 16) k ≡ wire m k
four m k l = sym (wire-below (m / 16) 4 (m % 16) k l) ∙ ap (λ (x : ℕ). wire x k) (split m 4)

-- and so are those above the first j
pub four-at : (m j k : ℕ) → k < 4 → wire (m / 2 ^ j % 16) k ≡ wire m (j + k)
four-at m j k l = four (m / 2 ^ j) k l ∙ ap (λ (x : ℕ). x % 2) (shr-shr m j k)
