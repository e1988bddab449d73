-- `search::search` meets its contract, by its invariant. Assumes nothing.
use Rattle.std.proofs.Common.{arith}
use Rattle.search.proofs.Turns.{search-starts, search-ends}
use Rattle.search.proofs.search.Goals as goal

pub loop-row-init : goal.loop-row-init
loop-row-init c =
    let a = c.args.grid.now.sound.sizes.few_a in
    let b = c.args.grid.now.sound.sizes.few_b in
    (search-starts c.args.grid.now.sound c.requires, record { reached = omega (arith, a, b); queue = omega (arith, a, b); from = omega (arith, a, b); by = omega (arith, a, b) })

pub returns : goal.returns
returns c = search-ends c.args.grid.now.sound c.requires c.loop-row.invariant.0 c.loop-row-test.false
