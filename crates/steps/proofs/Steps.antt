-- A reading step that the reader took, x, against the step t of the definitions: `x ≡ as_read t` is what the callee ensures, and the arm of the `?` says whether x is Ok.
--     stop         x was refused: so is whatever begins with t
--     go_on        x found v: what begins with t goes on with v from the next place
--     counted, counted-word      a count of one byte, or of two, judged
--     through, through_not       a step of which only the place was told
-- Assumes nothing.
use mathlib.Core.Path.{◌≡◌, refl, sym, ap}
use mathlib.Core.Bool.{Bool, true, false}
use mathlib.Core.List.{List}
use lib.Dec.{leb}
use Prim.Native.Nat.{ℕ}
use native.Mathlib.Omega.{arith}
use Rattle.steps.specs.declared.Refusal.{Refusal}
use Rattle.steps.specs.declared.Refusal.TheVariants.{TooMany}
use Rattle.std.specs.Prelude.{Ok, Err}
use Rattle.steps.specs.Step.{Step, got, refused, next, pick}
use Rattle.steps.specs.Found.{Read, as_read, within_of}
use Rattle.steps.specs.Bytes.{byte, word, within, count, word_count}
use Rattle.steps.proofs.Entries.{apart}

apart-reads : (x : Read) (v n : ℕ) (w : Refusal) → x ≡ Ok (v, n) → x ≡ Err w → ⊥
apart-reads x v n w p q = let z : ◌≡◌ {A = ℕ} 0 1 = cc in omega arith

pub found : (t : Step ℕ) (x : Read) (v n : ℕ) → x ≡ as_read t → x ≡ Ok (v, n) → t ≡ got v n
found (got v' n') x v n e p = let q : (v', n') ≡ (v, n) = cc in ap (λ (q : ℕ × ℕ). got q.0 q.1) q
found (refused w) x v n e p = absurd (apart-reads x v n w p e)

pub faulty : (t : Step ℕ) (x : Read) (w : Refusal) → x ≡ as_read t → x ≡ Err w → t ≡ refused w
faulty (got v n) x w e p = absurd (apart-reads x v n w e p)
faulty (refused w') x w e p = cc

pub go_on : {B : Type 0} (t : Step ℕ) (x : Read) (v n : ℕ) (k : ℕ → ℕ → Step B) → x ≡ as_read t → x ≡ Ok (v, n) → next t k ≡ k v n
go_on t x v n k e p = ap (λ (u : Step ℕ). next u k) (found t x v n e p)

pub stop : {B : Type 0} (t : Step ℕ) (x : Read) (w : Refusal) (k : ℕ → ℕ → Step B) → x ≡ as_read t → x ≡ Err w → next t k ≡ refused w
stop t x w k e p = ap (λ (u : Step ℕ). next u k) (faulty t x w e p)

judged-count : (t : Step ℕ) (most first : ℕ) (s : List ℕ) → within_of most first (as_read t) ≡ as_read (next t (λ n at. within most first n s at))
unfolding within_of within
judged-count (got n at) most first s = judged (leb n most)
  where
    judged : (b : Bool) → pick b (Ok (n, at)) (Err (TooMany first)) ≡ as_read (pick b (got n at) (refused (TooMany first)))
    judged true = refl
    judged false = refl
judged-count (refused w) most first s = refl

pub counted : (most at : ℕ) (s : List ℕ) → within_of most at (as_read (byte s at)) ≡ as_read (count most s at)
unfolding count
counted most at s = judged-count (byte s at) most at s

pub counted-word : (most at : ℕ) (s : List ℕ) → within_of most at (as_read (word s at)) ≡ as_read (word_count most s at)
unfolding word_count
counted-word most at s = judged-count (word s at) most at s

-- the value that a step found, where it found one
abbrev pub value_of : {A : Type 0} → A → Step A → A
value_of d (got a n) = a
value_of d (refused w) = d

pub through : {A : Type 0} (d : A) (t : Step A) (c v n : ℕ) → next t (λ a m. got c m) ≡ got v n → t ≡ got (value_of d t) n
through d (got a m) c v n h = let e : m ≡ n = cc in ap (got a) e
through d (refused w) c v n h = absurd (apart v n w (sym h))

pub through_not : {A : Type 0} (t : Step A) (f : A → ℕ) (w : Refusal) → next t (λ a m. got (f a) m) ≡ refused w → t ≡ refused w
through_not (got a m) f w h = absurd (apart (f a) m w h)
through_not (refused w') f w h = cc
