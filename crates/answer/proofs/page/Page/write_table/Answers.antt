-- `answer::page::Page::write_table` meets its contract: two texts, one after the other. Assumes nothing.
use Rattle.answer.proofs.Pieces.{both}
use Rattle.answer.proofs.page.Page.write_table.Goals as goal

pub returns : goal.returns
returns c = both c.write_two.ensures c.write.ensures
