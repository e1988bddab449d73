-- `scan::Store::looks` meets its contract, by its invariant. Assumes nothing.
use Rattle.std.proofs.Common.{arith}
use Rattle.scan.proofs.Sizes.{few-combinations}
use Rattle.scan.proofs.Aims.{to-other}
use Rattle.scan.proofs.Scan.{own, scan-start, scan-within, scan-ask, scan-turn, scan-less, scan-done}
use Rattle.scan.proofs.Arrays.{arrays-refl, arrays-trans}
use Rattle.scan.proofs.Store.looks.Goals as goal

pub overflow_sub-unseen-2 : goal.overflow_sub-unseen-2
overflow_sub-unseen-2 c = omega (arith, (own c.args.grid.now.sound c.requires.inside c.side_of-own.ensures).mask)

pub loop-part-init : goal.loop-part-init
loop-part-init c = let o = own c.args.grid.now.sound c.requires.inside c.side_of-own.ensures in
    (scan-start c.args.grid.now.sound c.requires o (omega (arith, o.mask)) (c.row_placed-lowest.ensures _ (omega (arith, o.mask, c.args.grid.now.sound.sizes.combinations))), arrays-refl _)

pub overflow_add-a : goal.overflow_add-a
overflow_add-a c = omega (arith, scan-within c.args.grid.now.sound c.requires c.loop-part.invariant.0, few-combinations c.args.grid.now.sound)

pub overflow_cast-a : goal.overflow_cast-a
overflow_cast-a c = omega (arith, scan-within c.args.grid.now.sound c.requires c.loop-part.invariant.0, few-combinations c.args.grid.now.sound)

pub look-requires : goal.look-requires
look-requires c = scan-ask c.args.grid.now.sound c.requires c.loop-part.invariant.0 (to-other _ _ c.side_of-own.ensures c.other_rows-other.ensures c.args.grid.now.sound)

pub returns-then-part-eq0 : goal.returns-then-part-eq0
returns-then-part-eq0 c =
    let next = c.next_part-part.ensures.next _ _ (omega (arith, c.args.grid.now.sound.sizes.few)) (omega (arith, c.loop-part.invariant.0.rest, c.args.grid.now.sound.sizes.combinations)) c.loop-part.invariant.0.at in
    record {
      swept = scan-done c.args.grid.now.sound c.requires c.loop-part.invariant.0 next (to-other _ _ c.side_of-own.ensures c.other_rows-other.ensures c.args.grid.now.sound) c.look.ensures.looked c.if-part-eq0.true;
      same = arrays-trans c.loop-part.invariant.1 c.look.ensures.same;
    }

pub loop-part-smaller : goal.loop-part-smaller
loop-part-smaller c =
    let next = c.next_part-part.ensures.next _ _ (omega (arith, c.args.grid.now.sound.sizes.few)) (omega (arith, c.loop-part.invariant.0.rest, c.args.grid.now.sound.sizes.combinations)) c.loop-part.invariant.0.at in
    scan-less c.args.grid.now.sound c.requires c.loop-part.invariant.0 next c.if-part-eq0.false

pub loop-part-preserved : goal.loop-part-preserved
loop-part-preserved c =
    let next = c.next_part-part.ensures.next _ _ (omega (arith, c.args.grid.now.sound.sizes.few)) (omega (arith, c.loop-part.invariant.0.rest, c.args.grid.now.sound.sizes.combinations)) c.loop-part.invariant.0.at in
    (scan-turn c.args.grid.now.sound c.requires c.loop-part.invariant.0 next (to-other _ _ c.side_of-own.ensures c.other_rows-other.ensures c.args.grid.now.sound) c.look.ensures.looked c.if-part-eq0.false, arrays-trans c.loop-part.invariant.1 c.look.ensures.same)
