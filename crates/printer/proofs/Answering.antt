-- The bytes that were read to the front of a buffer, and the text that was printed from the front of another, as the record of a
-- call that answered. Assumes nothing.
use Rattle.std.proofs.Common.{◌≡◌, ℕ, ◌<◌, ◌≤◌, List, Option, arith, length, take, length-take-le}
use Rattle.std.specs.Io.KnownBytes.{Appends, Consumes, IsAtEnd}
use Rattle.steps.specs.declared.Outcome.{Outcome}
use Rattle.sheet.specs.declared.Form.{Form}
use Rattle.text.specs.Text.{longest_text, Texted}
use Rattle.text.proofs.Ends.{texted-told}
use Rattle.printer.specs.Answered.{Answered}

pub answering : {f : Form} {room : ℕ} {left left_after held held_after : Option (List ℕ)} (buf : List ℕ) (n : ℕ) {entry exit : List ℕ} {o : Outcome} → length buf ≡ room → n ≤ length buf
    → Consumes left left_after (take n buf) → (n < length buf → IsAtEnd left_after) → longest_text ≤ length entry → Texted f (take n buf) entry o exit
    → Appends held held_after (take o.written exit) → Answered f room left left_after held held_after
answering buf n size within taken ended large texted printed =
    let long = length-take-le n buf within in
    record {
      job = take n buf;
      text = _;
      within = omega arith;
      taken = taken;
      ended = λ few. ended (omega arith);
      told = texted-told large texted;
      printed = printed;
    }
