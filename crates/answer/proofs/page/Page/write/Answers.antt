-- `answer::page::Page::write` meets its contract: the bytes are stored from the place on. Assumes nothing.
use Rattle.std.proofs.Common.{refl}
use Rattle.answer.proofs.page.Page.write.Goals as goal

pub returns : goal.returns
returns c = record { same = refl; stored = record { value = refl; out_after = c.store.ensures } }
