-- What a call that answered one job sheet did, over the bytes that the reader has left before and after, and those that the
-- writer holds before and after, as far as reader and writer say them.
--     Answered      a job was taken, no more than there is room for, and its text was printed
-- Assumes nothing: this is a definition.
use Rattle.std.specs.Prelude.{List, ℕ, ◌<◌, ◌≤◌, length}
use Rattle.std.specs.Io.KnownBytes.{Appends, Consumes, IsAtEnd}
use Rattle.std.specs.declared.option.Option.{Option}
use Rattle.sheet.specs.declared.Form.{Form}
use Rattle.text.specs.Told.{Told}

pub record Answered (f : Form) (room : ℕ) (left left_after held held_after : Option (List ℕ)) : Type 0 where
  pub job : List ℕ
  pub text : List ℕ
  pub within : length job ≤ room
  pub taken : Consumes left left_after job
  pub ended : length job < room → IsAtEnd left_after
  pub told : Told f job text
  pub printed : Appends held held_after text
