-- `cubes::fill_cube` meets its contract, by the law `filled-by`. Assumes nothing.
use mathlib.Core.Path.{refl}
use native.Mathlib.Omega.{arith}
use Rattle.cubes.proofs.Cubed.{part_low, part-row, fixed-last, in_table, filled-by}
use Rattle.cubes.proofs.fill_cube.Goals as goal

pub pattern_of-pattern-requires : goal.pattern_of-pattern-requires
pattern_of-pattern-requires c = record {
  fixed_bound = omega arith;
  part = part_low c.args.up c.args.fixed c.requires.part;
}

pub pattern_of-rows-requires : goal.pattern_of-rows-requires
pattern_of-rows-requires c = record {
  fixed_bound = omega arith;
  part = part-row c.args.up c.args.fixed c.requires.part;
}

pub overflow_sub-free : goal.overflow_sub-free
overflow_sub-free c = fixed-last _ _ c.args.up _ c.args.table.now.few c.requires c.last_block.ensures

pub or_blocks-requires : goal.or_blocks-requires
or_blocks-requires c = in_table _ _ _ _ c.args.table.now.few c.requires c.last_block.ensures

pub returns : goal.returns
returns c = record {
  wires = refl;
  each = filled-by _ _ _ _ c.requires c.last_block.ensures _ _ _ _ c.pattern_of-pattern.ensures c.pattern_of-rows.ensures c.or_blocks.ensures;
}
