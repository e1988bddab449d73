-- A bit above all that a set has so far, and a turn of the loop that reads a set. Assumes nothing.
use mathlib.Core.Path.{◌≡◌, sym, ap, ◌∙◌}
use Prim.Native.Nat.{ℕ, suc, ◌+◌, ◌-◌, ◌*◌, ◌%◌, ◌^◌, ◌≤◌, ◌<◌}
use native.Mathlib.Nat.{lt_of_lt_of_le, zero-add, add-zero, add_assoc, add_comm, one-mul, pow-suc}
use native.Mathlib.Numerals.{add-one}
use native.Mathlib.Omega.{arith}
use lib.Dec.{lit<}
use lib.Bits.{bit_or, or_shifted_r}
use mathlib.Core.List.{List}
use Rattle.steps.specs.Step.{got, next, Reading}
use Rattle.steps.specs.Bytes.{entry, entries}
use Rattle.sheet.specs.JobSheet.{mask_of, mask}
use Rattle.steps.proofs.Entries.{entry-bounds, entries-go, entries_none}
use lib.Pow.{pow_mono, shl_exact}

module _ (b e least : ℕ) (low : b < 2 ^ least) (le : least ≤ e) where
  under : b < 2 ^ e
  under = lt_of_lt_of_le low (pow_mono le)

  -- `b | (1 << e)` at 32 bits is a sum
  pub add-bit : e < 32 → bit_or b ((1 * 2 ^ e) % 2 ^ 32) ≡ b + 2 ^ e
  add-bit h =
      ap (bit_or b) (shl_exact 1 e 32 (lit< tt) (omega arith)) ∙ or_shifted_r 1 e b under
      ∙ ap (λ (x : ℕ). x + b) (one-mul (2 ^ e)) ∙ add_comm (2 ^ e) b

  -- and is below the next bit
  pub bit-lt : b + 2 ^ e < 2 ^ (e + 1)
  bit-lt = rw (add-one, pow-suc) (omega (arith, under))

-- the bits so far, and those of what is left, from a place on
abbrev pub mask_from : (left limit least bits : ℕ) → Reading ℕ
mask_from left limit least bits s at = next (entries left limit least s at) (λ es a. got (bits + mask_of es) a)

pub mask_start : (n limit : ℕ) (s : List ℕ) (at : ℕ) → mask n limit s at ≡ mask_from (n - 0) limit 0 0 s at
unfolding mask
mask_start n limit s at =
    let e : n ≡ n - 0 = omega arith in
    (λ i. next (entries n limit 0 s at) (λ es a. got (sym (zero-add (mask_of es)) i) a)) ∙ ap (λ (j : ℕ). mask_from j limit 0 0 s at) e

module _ (left limit least bits : ℕ) (s : List ℕ) (at : ℕ) where
  pub mask-turn : (rest e n : ℕ) → left ≡ suc rest → bits < 2 ^ least → limit ≤ 32 → entry limit least s at ≡ got e n
      → (bit_or bits ((1 * 2 ^ e) % 2 ^ 32) < 2 ^ (e + 1)) × (mask_from left limit least bits s at ≡ mask_from rest limit (e + 1) (bit_or bits ((1 * 2 ^ e) % 2 ^ 32)) s n)
  unfolding mask_of
  mask-turn rest e n one low small h =
      let within = entry-bounds limit least s at e n h in
      let sum : bit_or bits ((1 * 2 ^ e) % 2 ^ 32) ≡ bits + 2 ^ e = add-bit bits e least low within.1 (omega arith) in (
        rw sum (bit-lt bits e least low within.1),
        entries-go limit least s at (λ es a. got (bits + mask_of es) a) left rest e n one h
            ∙ (λ i. next (entries rest limit (e + 1) s n) (λ es a. got ((sym (add_assoc bits (2 ^ e) (mask_of es)) ∙ ap (λ (x : ℕ). x + mask_of es) (sym sum)) i) a)),
      )

  pub mask_done : left ≤ 0 → mask_from left limit least bits s at ≡ got bits at
  unfolding mask_of
  mask_done l = entries_none limit least s at (λ es a. got (bits + mask_of es) a) left l ∙ ap (λ (x : ℕ). got x at) (add-zero bits)
