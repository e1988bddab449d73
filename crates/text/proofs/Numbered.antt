-- The numbers of an outcome, written one after the other.
--     refused-short, numbers-short   the lines that tell them are short, since each is of a byte or of eight
--     numbered-no-room, numbered-wrote      the two ways out of a call
--     numbered-fits                  what is printed fits in the buffer
-- Assumes nothing.
use mathlib.Core.Path.{◌≡◌, refl, ap, ◌∙◌}
use mathlib.Core.Bool.{Bool, true, false}
use mathlib.Core.List.{List, [], ◌∷◌}
use Prim.Native.Nat.{ℕ, ◌+◌, ◌^◌, ◌<◌, ◌≤◌}
use native.Mathlib.Omega.{arith}
use borrow.Author.Tests.{lt-ltb, le-ltb}
use lib.Dec.{ltb}
use lib.ListN.{length, drop, length-append}
use Rattle.steps.specs.declared.Outcome.{Outcome}
use Rattle.steps.specs.Step.{pick}
use Rattle.steps.specs.Outcome.{success, refusal, refusing, writing, Ended}
use Rattle.answer.specs.declared.page.Page.{Page}
use Rattle.answer.proofs.Pieces.{from_front}
use Rattle.text.specs.Decimal.{decimal}
use Rattle.text.specs.Text.{longest_text, refused_text}
use Rattle.text.specs.Numbers.{first_three, numbers_text, longest_numbers, numbered}
use Rattle.text.proofs.Decimals.{decimal-short}
use Rattle.answer.specs.Page.{Wrote}

module _ (o : Outcome) (code : o.code < 256) (sheet : o.sheet < 256) (place : o.place < 2 ^ 64) where
  three-short : length (first_three o) ≤ 28
  three-short =
      let long : length (first_three o) ≡ length (decimal o.code) + (1 + length (decimal o.sheet)) + (1 + length (decimal o.place)) = simp length-append (omega arith) in
      omega (arith, decimal-short 3 o.code, decimal-short 3 o.sheet, decimal-short 20 o.place)

  pub refused-short : length (refused_text o) ≤ longest_text
  refused-short = omega (arith, three-short, length-append (first_three o) (10 ∷ []))

  pub numbers-short : o.written < 2 ^ 64 → o.rule < 2 ^ 64 → length (numbers_text o) ≤ longest_numbers
  numbers-short written rule =
      let long : length (numbers_text o) ≡ length (first_three o) + (1 + length (decimal o.written)) + (1 + length (decimal o.rule)) + 1 = simp length-append (omega arith) in
      omega (arith, three-short, decimal-short 20 o.written, decimal-short 20 o.rule)

module _ (o : Outcome) {p q : Page} (start : p.at ≡ 0) {r : Outcome} where
  pub numbered-wrote : longest_numbers ≤ length p.bytes.now → length (numbers_text o) ≤ longest_numbers → Wrote p (numbers_text o) q
      → {exit : List ℕ} → exit ≡ q.bytes.now → r ≡ success 0 q.at → Ended (numbered o p.bytes.now) r exit
  unfolding numbered
  numbered-wrote large short x same e =
      let long : q.at ≡ length (numbers_text o) = omega (arith, x.stored.value, start) in
      rw (le-ltb (length p.bytes.now) longest_numbers large) (record { outcome = e ∙ ap (success 0) long; exit_is = same ∙ from_front start (omega arith) x })

module _ (o : Outcome) (entry : List ℕ) {r : Outcome} where
  pub numbered-no-room : length entry < longest_numbers → r ≡ refusal 6 0 0 → Ended (numbered o entry) r entry
  unfolding numbered
  numbered-no-room few e = rw (lt-ltb (length entry) longest_numbers few) (record { outcome = e; exit_is = refl })

  -- by the test on the buffer's length
  fits : (b : Bool) {exit : List ℕ} → Ended (pick b (refusing (refusal 6 0 0) entry) (writing 0 (numbers_text o) entry)) r exit → r.written ≤ length exit
  fits true e = omega (arith, ap (λ (x : Outcome). x.written) e.outcome)
  fits false e =
      omega (arith, ap (λ (x : Outcome). x.written) e.outcome, ap length e.exit_is, length-append (numbers_text o) (drop (length (numbers_text o)) entry))

  pub numbered-fits : {exit : List ℕ} → Ended (numbered o entry) r exit → r.written ≤ length exit
  unfolding numbered
  numbered-fits e = fits (ltb (length entry) longest_numbers) e
