-- Two jobs that were taken from their sheets: whether Q asks no more than P, over what was found.
--     pins_in                    the pins stand in the sheet
--     and_then, and_else         what `&&` tells, by what its first part tells
--     asks_by                    the test, from what each part of a chain of `&&` over what was found told
-- Assumes nothing.
use Rattle.std.proofs.Common.{◌≡◌, ◌+◌, ◌≤◌, Bool, true, false, ◌&&◌, length, take, drop, refl, sym, ap, ◌∙◌, arith, length-take, length-drop}
use Rattle.std.proofs.Math.Logic.{∥∥₁_elim}
use Rattle.std.specs.Coded.{le_prop}
use Rattle.sheet.specs.declared.JobHead.{JobHead}
use Rattle.sheet.specs.Job.{Job}
use Rattle.sheet.proofs.Laws.{pins-stay}
use Rattle.sheet.proofs.Forms.{five-bytes}
use Rattle.wires.specs.Terms.{containsb}
use Rattle.asking.specs.declared.TakenJob.{TakenJob}
use Rattle.asking.specs.Asks.{same_pins, all_within, asksb}
use Rattle.asking.specs.Taken.{pins, rules, excuses, IsJob}

pub pins_in : (t : TakenJob) → 1 + t.head.wires ≤ length t.sheet.now
pins_in t = ∥∥₁_elim t.taken le_prop (λ k. there k.0 k.1)
  where
    there : (j : Job) → IsJob t j → 1 + t.head.wires ≤ length t.sheet.now
    there j k =
        let all : t.head.wires ≡ length j.pins = ap (λ (h : JobHead). h.wires) k.head in
        let found : length j.pins ≡ length (take (length j.pins) (drop 1 t.sheet.now)) = ap length (pins-stay k.form t.sheet.now j k.is) in
        omega (arith, length-take (length j.pins) (drop 1 t.sheet.now), length-drop 1 t.sheet.now, five-bytes k.form t.sheet.now j k.is)

pub and_then : {x y r s : Bool} → x ≡ true → r ≡ s → s ≡ y → r ≡ x && y
and_then t e f = rw t (e ∙ f)

pub and_else : (y : Bool) {x r : Bool} → x ≡ false → r ≡ x → r ≡ x && y
and_else y t e = rw t (e ∙ t)

associated : (a b c d e : Bool) → (((a && b) && c) && d) && e ≡ a && (b && (c && (d && e)))
associated true true true true e = refl
associated true true true false e = refl
associated true true false d e = refl
associated true false c d e = refl
associated false b c d e = refl

module _ (t u : TakenJob) (P Q : Job) (p : IsJob t P) (q : IsJob u Q) where
  -- the parts of the test, over what was found
  abbrev pins_alike : Bool
  pins_alike = same_pins (pins t) (pins u)

  abbrev sees_a : Bool
  sees_a = containsb u.head.sees_a t.head.sees_a

  abbrev sees_b : Bool
  sees_b = containsb u.head.sees_b t.head.sees_b

  abbrev rules_all : Bool
  rules_all = all_within (rules t) (rules u)

  abbrev excuses_all : Bool
  excuses_all = all_within (excuses u) (excuses t)

  pins_are : (v : TakenJob) (j : Job) → IsJob v j → pins v ≡ j.pins
  pins_are v j k = ap (λ (h : JobHead). take h.wires (drop 1 v.sheet.now)) k.head ∙ sym (pins-stay k.form v.sheet.now j k.is)

  seen_a : (v : TakenJob) (j : Job) → IsJob v j → v.head.sees_a ≡ j.sees_a
  seen_a v j k = ap (λ (h : JobHead). h.sees_a) k.head

  seen_b : (v : TakenJob) (j : Job) → IsJob v j → v.head.sees_b ≡ j.sees_b
  seen_b v j k = ap (λ (h : JobHead). h.sees_b) k.head

  asks_as : (((pins_alike && sees_a) && sees_b) && rules_all) && excuses_all ≡ asksb P Q
  unfolding asksb
  asks_as =
      associated pins_alike sees_a sees_b rules_all excuses_all
      ∙ rw (pins_are t P p, pins_are u Q q, p.rules_are, q.rules_are, p.excuses_are, q.excuses_are, seen_a t P p, seen_a u Q q, seen_b t P p, seen_b u Q q) refl

  pub asks_by : (v w x y r : Bool) → v ≡ pins_alike → w ≡ v && sees_a → x ≡ w && sees_b → y ≡ x && rules_all → r ≡ y && excuses_all → r ≡ asksb P Q
  asks_by v w x y r a b c d e = e ∙ rw (d, c, b, a) asks_as
