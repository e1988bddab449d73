-- `answer::read_entries` meets its contract. The invariant: the whole is what is left of the entries, from here on. Assumes nothing.
use Rattle.std.proofs.Common.{◌≡◌, ◌-◌}
use Rattle.steps.specs.Step.{next, got}
use Rattle.answer.specs.AnswerSheet.{entries}
use Rattle.answer.specs.AnswerFound.{entries_pass}
use Rattle.answer.proofs.read_entries.Given as goal

abbrev pub invariant-loop : goal.invariant-loop
invariant-loop l =
    entries_pass l.count l.claims l.combinations l.sheet l.at ≡ next (entries (l.count - l.counter) l.claims l.combinations l.sheet l.place) (λ es a. got l.count a)
