-- An outcome as one 64-bit number (document 01, "Bench use"). The rule is not handed over with it.
--     pack      the number of an outcome
--     unpack    the outcome of a number
--     handed    what is handed over of an outcome
--     Packs     the outcome's numbers are small enough
-- Assumes nothing: these are definitions.
use Rattle.std.specs.Prelude.{ℕ, ◌+◌, ◌*◌, ◌/◌, ◌%◌, ◌^◌, ◌<◌}
use Rattle.steps.specs.declared.Outcome.{Outcome}

-- code in the low 8 bits, then sheet in 8, place in 24, bytes written in 24
abbrev pub pack : Outcome → ℕ
pack o = o.code + 2 ^ 8 * o.sheet + 2 ^ 16 * o.place + 2 ^ 40 * o.written

abbrev pub unpack : ℕ → Outcome
unpack x = record { code = x % 2 ^ 8; sheet = x / 2 ^ 8 % 2 ^ 8; place = x / 2 ^ 16 % 2 ^ 24; written = x / 2 ^ 40; rule = 0 }

-- numbers that outcomes gain later aren't
abbrev pub handed : Outcome → Outcome
handed o = record { code = o.code; sheet = o.sheet; place = o.place; written = o.written; rule = 0 }

pub record Packs (o : Outcome) : Type 0 where
  pub code : o.code < 2 ^ 8
  pub sheet : o.sheet < 2 ^ 8
  pub place : o.place < 2 ^ 24
  pub written : o.written < 2 ^ 24
