-- Sheets that are written piece by piece on a page.
--     wrote                        a run of stores from place 0 is the sheet, and what the buffer held beyond it
--     front_length                 how long the first of two tables is that stand one after the other
--     first-asks, second-asks, third-room      what the writer of each piece of their sheet asks
--     state-wrote                  the three pieces are their sheet
--     counts, walk-room            there is room for the counts of a walk, and for its bytes
-- Assumes nothing.
use mathlib.Core.Path.{◌≡◌, sym, ap, subst, ◌∙◌}
use mathlib.Core.List.{List, ◌++◌}
use Prim.Native.Nat.{ℕ, ◌-◌, ◌/◌, ◌<◌, ◌≤◌}
use native.Mathlib.Omega.{arith}
use lib.ListN.{length, take, drop, length-drop}
use lib.Seq.{sets, take_all, length-take-le}
use Rattle.steps.proofs.Runs.{at_front}
use Rattle.answer.specs.declared.page.Page.{Page}
use Rattle.answer.specs.Page.{Room, Wrote}
use Rattle.answer.specs.Written.{two, table, tables_sheet}
use Rattle.solver.specs.Solved.{Wrote as Written}
use Rattle.answer.proofs.Pieces.{Three, both, three, first_room, next_room}

pub wrote : (sheet l exit : List ℕ) → length sheet ≤ length l → exit ≡ sets l 0 sheet → Written sheet l exit
wrote sheet l exit fits e = e ∙ at_front l sheet fits

-- the two tables stand one after the other in `state`, the first of them of n rows
module _ (state : List ℕ) (n : ℕ) (within : n ≤ length state) where
  abbrev rest : List ℕ
  rest = take (length state - n) (drop n state)

  pub front_length : length (take n state) ≡ n
  front_length = length-take-le n state within

  drop-length : length (drop n state) ≡ length state - n
  drop-length = length-drop n state

  rest-is : rest ≡ drop n state
  rest-is = take_all (length state - n) (drop n state) (omega (arith, drop-length))

  module _ (few : length state ≤ 512) (p : Page) (room : Room p (tables_sheet (take n state) (drop n state))) where
    abbrev tables : Three p (table (take n state)) (table (drop n state)) (two 0)
    tables = three (table (take n state)) (table (drop n state)) (two 0) room

    pub first-asks : record { room : Room p (table (take n state)); few : length (take n state) < 65536 }
    first-asks = record { room = tables.first; few = omega (arith, front_length) }

    module _ {p₁ : Page} (x₁ : Wrote p (table (take n state)) p₁) where
      pub second-asks : record { room : Room p₁ (table rest); few : length rest < 65536 }
      second-asks = record {
        room = subst (λ (l : List ℕ). Room p₁ (table l)) (sym rest-is) (tables.second x₁);
        few = omega (arith, drop-length, ap length rest-is);
      }

      module _ {p₂ : Page} (x₂ : Wrote p₁ (table rest) p₂) where
        second : Wrote p₁ (table (drop n state)) p₂
        second = subst (λ (l : List ℕ). Wrote p₁ (table l) p₂) rest-is x₂

        pub third-room : Room p₂ (two 0)
        third-room = tables.third x₁ second

        pub state-wrote : {p₃ : Page} → Wrote p₂ (two 0) p₃ → Wrote p (tables_sheet (take n state) (drop n state)) p₃
        state-wrote x₃ = both (both x₁ second) x₃

-- the bytes of a walk, after its three counts
module _ (bytes : List ℕ) {p : Page} (room : Room p (two 0 ++ two 0 ++ two (length bytes / 4) ++ bytes)) where
  pub counts : Three p (two 0) (two 0) (two (length bytes / 4))
  counts = three (two 0) (two 0) (two (length bytes / 4)) (first_room p (two 0 ++ two 0 ++ two (length bytes / 4)) bytes room)

  pub walk-room : {q : Page} → Wrote p (two 0 ++ two 0 ++ two (length bytes / 4)) q → Room q bytes
  walk-room x = next_room x bytes room
