-- `scan::some_new` meets its contract, by the laws of `proofs/New.antt`. Assumes nothing.
use Rattle.std.proofs.Common.{◌∙◌, eqb-true}
use borrow.Author.Tests.{not-false}
use Rattle.scan.proofs.New.{known-base, known_next}
use Rattle.scan.proofs.some_new.Goals as goal

pub returns : goal.returns
returns c e =
    let h = eqb-true _ _ (not-false _ e) in
    ((λ b z. known-base c.args.f c.args.low c.args.high c.wrapping_sub_u8.result c.wrapping_sub_u8-2.result h c.requires.0 c.wrapping_sub_u8.type_inv b (c.wrapping_sub_u8.ensures.value ∙ z)), (λ b z. known_next c.args.f c.args.low c.args.high c.wrapping_sub_u8.result c.wrapping_sub_u8-2.result h c.requires.1 c.wrapping_sub_u8-2.type_inv b (c.wrapping_sub_u8-2.ensures.value ∙ z)))
