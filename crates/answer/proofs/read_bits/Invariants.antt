-- `answer::read_bits` meets its contract. The invariant: the whole is what is left of the rows, from here on. Assumes nothing.
use Rattle.std.proofs.Common.{◌≡◌, ◌-◌}
use Rattle.steps.specs.Step.{next, got}
use Rattle.answer.specs.AnswerSheet.{bits}
use Rattle.answer.specs.AnswerFound.{bits_pass}
use Rattle.answer.proofs.read_bits.Given as goal

abbrev pub invariant-loop : goal.invariant-loop
invariant-loop l = bits_pass l.rows l.sheet l.at ≡ next (bits (l.rows - l.counter) l.sheet l.place) (λ bs a. got l.rows a)
