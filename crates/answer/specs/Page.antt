-- What writing on a page asks and leaves.
--     Stored            a text stands in the buffer from a place on, and every other byte is as it was
--     Room, Wrote       what a page asks of a text that is written on it, and how it goes on
-- Assumes nothing: these are definitions.
use Rattle.std.specs.Prelude.{◌≡◌, List, ℕ, ◌+◌, ◌≤◌, length}
use Rattle.std.proofs.lemmas.List.Edits.{sets}
use Rattle.answer.specs.declared.page.Page.{Page}

-- `after` is the place after the text
pub record Stored (entry : List ℕ) (at : ℕ) (t exit : List ℕ) (after : ℕ) : Type 0 where
  pub value : after ≡ at + length t
  pub out_after : exit ≡ sets entry at t

-- there is room for a text where a page goes on
abbrev pub Room : Page → List ℕ → Type 0
Room p t = p.at + length t ≤ length p.bytes.now

-- a page goes on after a text, in the same buffer
pub record Wrote (p : Page) (t : List ℕ) (q : Page) : Type 0 where
  pub same : q.bytes.ghost_name ≡ p.bytes.ghost_name
  pub stored : Stored p.bytes.now p.at t q.bytes.now q.at
