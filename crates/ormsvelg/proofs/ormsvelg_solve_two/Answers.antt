-- `ormsvelg::ormsvelg_solve_two` meets its contract: what the solver answers fits its number, and is found again in it. Assumes nothing.
use Rattle.ormsvelg.proofs.Packing.{solve-packs, solve-found}
use Rattle.ormsvelg.proofs.ormsvelg_solve_two.Goals as goal

pub packed-requires : goal.packed-requires
packed-requires c = solve-packs c.solve.ensures

pub returns : goal.returns
returns c = solve-found _ _ _ _ _ _ c.packed.ensures c.solve.ensures
