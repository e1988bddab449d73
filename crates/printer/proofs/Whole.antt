-- Where there is room for one byte more than the longest job sheet has, the bytes that are taken decide the whole input.
--     same-told       jobs that are read alike have the same text
--     whole-told      what was printed is the text of all that the reader had
-- Assumes nothing.
use Rattle.std.proofs.Common.{◌≡◌, ℕ, ◌+◌, ◌<◌, ◌≤◌, List, [], ◌++◌, Option, Some, None, arith, length, take, sym, ap, ◌∙◌, append-nil, ⊎_elim}
use Rattle.std.proofs.lemmas.Bool.{cases_lt}
use Rattle.std.proofs.lemmas.List.{take-append-le}
use Rattle.std.specs.Io.KnownBytes.{Appends}
use Rattle.sheet.specs.declared.Form.{Form}
use Rattle.sheet.specs.JobSheet.{read_job, longest}
use Rattle.sheet.proofs.Length.{first-decide}
use Rattle.text.specs.Told.{Told, refused, tables, walk}
use Rattle.printer.specs.Answered.{Answered}

pub same-told : {f : Form} {job whole t : List ℕ} → read_job f whole ≡ read_job f job → Told f job t → Told f whole t
same-told e (refused w is p) = refused w (e ∙ is) p
same-told e (tables j xs ys is pair first p) = tables j xs ys (e ∙ is) pair first p
same-told e (walk j es is walks stands few p) = walk j es (e ∙ is) walks stands few p

-- what was taken is read as the whole input is
read-alike : (f : Form) (room : ℕ) (job rest whole : List ℕ) → longest f < room → whole ≡ job ++ rest → (length job < room → rest ≡ []) → read_job f whole ≡ read_job f job
read-alike f room job rest whole large e ended =
    ⊎_elim
    (λ (few : length job < room). ap (read_job f) (e ∙ ap (λ (xs : List ℕ). job ++ xs) (ended few) ∙ append-nil job))
    (λ (full : room ≤ length job).
    let same : take (longest f + 1) whole ≡ take (longest f + 1) job = ap (take (longest f + 1)) e ∙ take-append-le (longest f + 1) job rest (omega arith) in
    sym (first-decide f whole) ∙ ap (read_job f) same ∙ first-decide f job)
    (cases_lt (length job) room)

pub whole-told : (f : Form) (room : ℕ) (whole : List ℕ) (left_after held held_after : Option (List ℕ)) → longest f < room
    → Answered f room (Some whole) left_after held held_after → (t : List ℕ) × Told f whole t × Appends held held_after t
whole-told f room whole None held held_after large a = absurd a.taken
whole-told f room whole (Some rest) held held_after large a =
    (a.text, same-told (read-alike f room a.job rest whole large a.taken a.ended) a.told, a.printed)
