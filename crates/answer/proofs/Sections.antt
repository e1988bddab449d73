-- The sections of an answer sheet one after another.
--     no-claim, no-combination, entry-there     an entry of a walk
--     tables-is, walk_is     what follows the first count, as the reader takes it: nothing is kept of tables and entries
--     no_kind, is-walk, is-tables        the whole sheet, by its first count
--     no_walk, walk-found, no-tables, tables-found       what the reader answers where it has read the rest
-- Assumes nothing.
use mathlib.Core.Path.{◌≡◌, refl, sym, ap, ◌∙◌}
use mathlib.Core.Bool.{Bool, true, false}
use mathlib.Core.List.{List}
use Prim.Native.Nat.{ℕ, ◌+◌, ◌*◌}
use borrow.Author.Tests.{eq-eqb, ne_eqb}
use lib.Dec.{ltb}
use lib.ListN.{length}
use Rattle.steps.specs.declared.Refusal.{Refusal}
use Rattle.steps.specs.declared.Refusal.TheVariants.{LeftOver}
use Rattle.steps.specs.Step.{Step, got, refused, next, pick}
use Rattle.steps.specs.Bytes.{end}
use Rattle.steps.proofs.Entries.{next-inv, got-inj}
use Rattle.steps.proofs.Steps.{through_not}
use Rattle.std.specs.Prelude.{Ok}
use Rattle.answer.specs.declared.AnswerKind.TheVariants.{Tables, Walk}
use Rattle.answer.specs.Answer.{Entry, Answer, tables, walk, answered, rejected}
use Rattle.answer.specs.AnswerSheet.{exactly, kind_count, walk_count, bits, below, entry, entries, tables_rest, walk_rest, answer, verdict_of, read_answer}
use Rattle.answer.specs.AnswerFound.{bits_pass, entries_pass, tables_pass, walk_pass, count_of, as_answer}
use Rattle.answer.proofs.Many.{entries-many, many-length}

-- ---- an entry of a walk

module _ (claims combinations : ℕ) (s : List ℕ) (at : ℕ) where
  pub no-claim : (w : Refusal) → below claims s at ≡ refused w → entry claims combinations s at ≡ refused w
  unfolding entry
  no-claim w h = rw h

  module _ (c m : ℕ) (h₁ : below claims s at ≡ got c m) where
    pub no-combination : (w : Refusal) → below combinations s m ≡ refused w → entry claims combinations s at ≡ refused w
    unfolding entry
    no-combination w h = rw (h₁, h)

    pub entry-there : (a q : ℕ) → below combinations s m ≡ got a q → entry claims combinations s at ≡ got (record { says = c; by = a }) q
    unfolding entry
    entry-there a q h = rw (h₁, h)

-- ---- what follows the first count

-- g follows each of two steps, so it follows the second
module _ {A B C : Type 0} (t : Step A) (f : A → ℕ → Step B) (g : B → ℕ → Step C) where
  inner : (k : A → ℕ → Step C) → ((a : A) (m : ℕ) → next (f a m) g ≡ k a m) → next (next t f) g ≡ next t k
  inner k h = by t h
    where
      by : (u : Step A) → ((a : A) (m : ℕ) → next (f a m) g ≡ k a m) → next (next u f) g ≡ next u k
      by (got a m) h = h a m
      by (refused w) h = refl

  -- and only the place matters after the first
  inner-past : (n : ℕ) (k : ℕ → Step C) → ((a : A) (m : ℕ) → t ≡ got a m → next (f a m) g ≡ k m) → next (next t f) g ≡ next (next t (λ a m. got n m)) (λ v m. k m)
  inner-past n k h = by t h
    where
      by : (u : Step A) → ((a : A) (m : ℕ) → u ≡ got a m → next (f a m) g ≡ k m) → next (next u f) g ≡ next (next u (λ a m. got n m)) (λ v m. k m)
      by (got a m) h = h a m refl
      by (refused w) h = refl

ended : (t : Answer) (s : List ℕ) (at : ℕ) → count_of t ≡ 0 → next (next (end s at) (λ e q. got t q)) (λ u q. got (count_of u) q) ≡ end s at
unfolding end
ended t s at z = go (ltb at (length s))
  where
    go : (b : Bool) → next (next (pick {X = Step ℕ} b (refused (LeftOver at)) (got 0 at)) (λ e q. got t q)) (λ u q. got (count_of u) q) ≡ pick {X = Step ℕ} b (refused (LeftOver at)) (got 0 at)
    go true = refl
    go false = ap (λ (n : ℕ). got n at) z

pub tables-is : (rows_a rows_b : ℕ) (s : List ℕ) (at : ℕ)
    → tables_pass rows_a rows_b s at
    ≡ next (bits_pass rows_a s at) (λ v b. next (exactly rows_b s b) (λ k c. next (bits_pass rows_b s c) (λ u d. next (exactly 0 s d) (λ z e. end s e))))
unfolding tables_pass tables_rest bits_pass
tables-is rows_a rows_b s at =
    inner-past (bits rows_a s at) _ _ rows_a _ (λ xs b p.
    inner (exactly rows_b s b) _ _ _ (λ k c.
    inner-past (bits rows_b s c) _ _ rows_b _ (λ ys d q.
    inner (exactly 0 s d) _ _ _ (λ z e. ended (tables xs ys) s e refl))))

pub walk_is : (claims combinations : ℕ) (s : List ℕ) (at : ℕ)
    → walk_pass claims combinations s at
    ≡ next (exactly 0 s at) (λ z b. next (walk_count s b) (λ k c. next (entries_pass k claims combinations s c) (λ v d. next (end s d) (λ e q. got k q))))
unfolding walk_pass walk_rest entries_pass
walk_is claims combinations s at =
    inner (exactly 0 s at) _ _ _ (λ z b.
    inner (walk_count s b) _ _ _ (λ k c.
    inner-past (entries k claims combinations s c) _ _ k _ (λ es d p.
    let long = many-length (entries-many claims combinations) k s c es d p in
    inner (end s d) _ _ (λ e q. got k q) (λ e q. ap (λ (n : ℕ). got n q) long))))

walk-shape : (claims combinations : ℕ) (s : List ℕ) (at : ℕ) (a : Answer) (n : ℕ) → walk_rest claims combinations s at ≡ got a n → (es : List Entry) × (a ≡ walk es)
unfolding walk_rest
walk-shape claims combinations s at a n h =
    let i₁ = next-inv (exactly 0 s at) _ a n h in
    let i₂ = next-inv (walk_count s i₁.1) _ a n i₁.3 in
    let i₃ = next-inv (entries i₂.0 claims combinations s i₂.1) _ a n i₂.3 in
    let i₄ = next-inv (end s i₃.1) _ a n i₃.3 in
    (i₃.0, sym (got-inj _ a _ n i₄.3))

tables-shape : (rows_a rows_b : ℕ) (s : List ℕ) (at : ℕ) (a : Answer) (n : ℕ) → tables_rest rows_a rows_b s at ≡ got a n → (xs ys : List ℕ) × (a ≡ tables xs ys)
unfolding tables_rest
tables-shape rows_a rows_b s at a n h =
    let i₁ = next-inv (bits rows_a s at) _ a n h in
    let i₂ = next-inv (exactly rows_b s i₁.1) _ a n i₁.3 in
    let i₃ = next-inv (bits rows_b s i₂.1) _ a n i₂.3 in
    let i₄ = next-inv (exactly 0 s i₃.1) _ a n i₃.3 in
    let i₅ = next-inv (end s i₄.1) _ a n i₄.3 in
    (i₁.0, i₃.0, sym (got-inj _ a _ n i₅.3))

-- ---- the whole sheet

module _ (rows_a rows_b combinations : ℕ) (s : List ℕ) where
  pub no_kind : (w : Refusal) → kind_count rows_a s 0 ≡ refused w → read_answer rows_a rows_b combinations s ≡ rejected w
  unfolding read_answer answer
  no_kind w h = rw h

  module _ (n m : ℕ) (h : kind_count rows_a s 0 ≡ got n m) where
    module _ (z : n ≡ 0) where
      pub is-walk : read_answer rows_a rows_b combinations s ≡ verdict_of (walk_rest (2 * (rows_a + rows_b)) combinations s m)
      unfolding read_answer answer
      is-walk = rw (h, eq-eqb n 0 z)

      pub no_walk : (w : Refusal) → walk_pass (2 * (rows_a + rows_b)) combinations s m ≡ refused w → read_answer rows_a rows_b combinations s ≡ rejected w
      unfolding walk_pass
      no_walk w p = is-walk ∙ ap verdict_of (through_not (walk_rest (2 * (rows_a + rows_b)) combinations s m) count_of w p)

      pub walk-found : (v q : ℕ) → walk_pass (2 * (rows_a + rows_b)) combinations s m ≡ got v q → Ok (Walk v) ≡ as_answer (read_answer rows_a rows_b combinations s)
      unfolding walk_pass
      walk-found v q p =
          let i = next-inv (walk_rest (2 * (rows_a + rows_b)) combinations s m) _ v q p in
          let es = walk-shape (2 * (rows_a + rows_b)) combinations s m i.0 i.1 i.2 in
          let long : length es.0 ≡ v = ap count_of (sym es.1) ∙ got-inj _ _ _ _ i.3 in
          sym (ap as_answer (is-walk ∙ ap verdict_of i.2 ∙ ap answered es.1) ∙ ap (λ (k : ℕ). Ok (Walk k)) long)

    module _ (z : n ≡ 0 → ⊥) where
      pub is-tables : read_answer rows_a rows_b combinations s ≡ verdict_of (tables_rest rows_a rows_b s m)
      unfolding read_answer answer
      is-tables = rw (h, ne_eqb n 0 z)

      pub no-tables : (w : Refusal) → tables_pass rows_a rows_b s m ≡ refused w → read_answer rows_a rows_b combinations s ≡ rejected w
      unfolding tables_pass
      no-tables w p = is-tables ∙ ap verdict_of (through_not (tables_rest rows_a rows_b s m) count_of w p)

      pub tables-found : (v q : ℕ) → tables_pass rows_a rows_b s m ≡ got v q → Ok Tables ≡ as_answer (read_answer rows_a rows_b combinations s)
      unfolding tables_pass
      tables-found v q p =
          let i = next-inv (tables_rest rows_a rows_b s m) _ v q p in
          let is = tables-shape rows_a rows_b s m i.0 i.1 i.2 in
          sym (ap as_answer (is-tables ∙ ap verdict_of i.2 ∙ ap answered is.2))
