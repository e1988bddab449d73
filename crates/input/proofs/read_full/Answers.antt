-- `input::read_full`: a read's bytes come after those that were there. Assumes nothing.
use Rattle.std.proofs.Common.{◌≡◌, ℕ, ◌+◌, ◌-◌, ◌≤◌, List, ◌++◌, arith, length, take, sym, ap, ◌∙◌, ap₂, subst, le_refl, drop_at, length-take-le}
use Rattle.std.proofs.lemmas.Slice.{take-put_mid_below}
use Rattle.std.specs.Io.KnownBytes.{Consumes}
use Rattle.std.proofs.KnownBytes.{Consumes-trans}
use borrow.Rule.Slice.PartMut.{put_mid, post_of}
use lib.Seq.{take-add, take-append-le}
use Rattle.input.proofs.read_full.Goals as goal

take-put_mid_more : (a k n : ℕ) (xs ys : List ℕ) → a ≤ length xs → n ≤ length ys → take (a + n) (put_mid a k xs ys) ≡ take a xs ++ take n ys
take-put_mid_more a k n xs ys within fits =
    let after = post_of a k xs in
    take-add a n (put_mid a k xs ys)
    ∙ ap₂ (λ (u v : List ℕ). u ++ v)
    (take-put_mid_below a k xs ys a (le_refl a) within)
    (ap (take n) (drop_at (take a xs) (ys ++ after) a (length-take-le a xs within)) ∙ take-append-le n ys after fits)

pub loop-done-preserved : goal.loop-done-preserved
loop-done-preserved g c =
    let done = c.loop-done.done in
    let room = length c.loop-done.buf - done in
    let more = take-put_mid_more done room c.in_ok-n.n c.loop-done.buf c.read.new.buf c.loop-done.invariant.within c.in_ok-n.ensures.bound.0 in
    record {
      within = omega (arith, c.in_ok-n.ensures.bound.0);
      bytes = subst (Consumes _ _) (sym more) (Consumes-trans _ _ _ _ _ c.loop-done.invariant.bytes c.in_ok-n.ensures.bytes.0);
    }
