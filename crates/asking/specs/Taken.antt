-- A job that was taken from its sheet, as the struct that holds it.
--     IsJob                      it is this job
--     pins, rules, excuses       what it has of each
-- Assumes nothing: these are definitions.
use Rattle.std.specs.Prelude.{List, ℕ, take, drop}
use Rattle.sheet.specs.Job.{Job}
use Rattle.asking.specs.declared.TakenJob.{TakenJob}
use Rattle.asking.specs.Taking.{TakenAs}

abbrev pub IsJob : TakenJob → Job → Type 0
IsJob t j = TakenAs t.sheet.now t.head t.masks.now j

-- the pins stay in the sheet, from place 1 on
abbrev pub pins : TakenJob → List ℕ
pins t = take t.head.wires (drop 1 t.sheet.now)

abbrev pub rules : TakenJob → List ℕ
rules t = take t.head.rules t.masks.now

-- the excuses stand behind the rules
abbrev pub excuses : TakenJob → List ℕ
excuses t = take t.head.excuses (drop t.head.rules t.masks.now)
