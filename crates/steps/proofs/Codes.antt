-- The codes of outcomes.
--     codes-differ, sheets-differ     outcomes of different codes, or sheets, differ
--     code-bounds           none of a job's is that of a success
--     answer-code-bounds    nor is one of an answer's, and none of these is 10
-- Assumes nothing.
use mathlib.Core.Path.{◌≡◌, ap}
use mathlib.Core.Logic.{◌≢◌}
use Prim.Native.Nat.{◌≤◌, ◌<◌}
use native.Mathlib.Omega.{arith}
use Rattle.steps.specs.declared.Refusal.{Refusal}
use Rattle.steps.specs.declared.Refusal.TheVariants.{Ends, TooMany, NotRising, TooHigh, LeftOver, OtherKind, NotABit, OutOfRange}
use Rattle.steps.specs.declared.Outcome.{Outcome}
use Rattle.steps.specs.Outcome.{code_of, answer_code_of}

pub codes-differ : (o p : Outcome) → (o.code ≡ p.code → ⊥) → o ≡ p → ⊥
codes-differ o p d e = d (ap (λ (x : Outcome). x.code) e)

pub sheets-differ : (o p : Outcome) → (o.sheet ≡ p.sheet → ⊥) → o ≡ p → ⊥
sheets-differ o p d e = d (ap (λ (x : Outcome). x.sheet) e)

pub code-bounds : (w : Refusal) → (1 ≤ code_of w) × (code_of w < 20)
code-bounds (Ends p) = (omega arith, omega arith)
code-bounds (TooMany p) = (omega arith, omega arith)
code-bounds (NotRising p) = (omega arith, omega arith)
code-bounds (TooHigh p) = (omega arith, omega arith)
code-bounds (LeftOver p) = (omega arith, omega arith)
code-bounds (OtherKind p) = (omega arith, omega arith)
code-bounds (NotABit p) = (omega arith, omega arith)
code-bounds (OutOfRange p) = (omega arith, omega arith)

pub answer-code-bounds : (w : Refusal) → (answer_code_of w < 20) × (answer_code_of w ≢ 10)
answer-code-bounds (Ends p) = (omega arith, λ e. omega arith)
answer-code-bounds (TooMany p) = (omega arith, λ e. omega arith)
answer-code-bounds (NotRising p) = (omega arith, λ e. omega arith)
answer-code-bounds (TooHigh p) = (omega arith, λ e. omega arith)
answer-code-bounds (LeftOver p) = (omega arith, λ e. omega arith)
answer-code-bounds (OtherKind p) = (omega arith, λ e. omega arith)
answer-code-bounds (NotABit p) = (omega arith, λ e. omega arith)
answer-code-bounds (OutOfRange p) = (omega arith, λ e. omega arith)
