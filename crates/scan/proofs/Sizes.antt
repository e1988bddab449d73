-- What the sizes of a sound grid come to: each combination shows a row that the cell has, and there are at most 16,384 combinations.
-- Assumes nothing.
use Rattle.std.proofs.Common.{ℕ, ◌^◌, ◌<◌, ◌≤◌, arith, pow_mono}
use Rattle.wires.proofs.Rows.{row_below}
use Rattle.board.specs.Board.{Shows}
use Rattle.grid.specs.Grid.{shown_a, shown_b, Sound, grid_board}
use Rattle.grid.specs.Grid.{Grid}

module _ {g : Grid} (ok : Sound g) where
  pub in-a : (a : ℕ) → a < g.shape.combinations → shown_a g a < g.shape.rows_a
  in-a a h = omega (arith, ok.is_a a h, ok.sizes.rows_a, row_below g.shape.wires g.shape.sees_a a)

  pub in-b : (a : ℕ) → a < g.shape.combinations → shown_b g a < g.shape.rows_b
  in-b a h = omega (arith, ok.is_b a h, ok.sizes.rows_b, row_below g.shape.wires g.shape.sees_b a)

  pub few-combinations : g.shape.combinations ≤ 16384
  few-combinations =
      let h : 2 ^ g.shape.wires ≤ 2 ^ 14 = pow_mono ok.sizes.few in
      omega (arith, ok.sizes.combinations)

  pub shows : Shows (grid_board g)
  shows = record { in_a = in-a; in_b = in-b }
