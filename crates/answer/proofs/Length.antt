-- How long an answer sheet is: one that is read as an answer is not long, and no step looks, nor tells a place, far beyond.
--     walk-count-bounds      a walk's count that was found is 1 to 2,046
--     answer-near        reading an answer looks at no more than 8,191 bytes
--     place-small        every place that a refusal tells is at most 8,191
--     answered-short     a sheet that is read as an answer has at most 8,190 bytes
-- Assumes nothing.
use mathlib.Core.Path.{◌≡◌, refl, sym, ap, ◌∙◌}
use mathlib.Core.Bool.{Bool, true, false, ◌&&◌, ◌||◌}
use mathlib.Core.List.{List, [], ◌∷◌}
use Prim.Native.Nat.{ℕ, zero, suc, ◌+◌, ◌*◌, ◌≤◌}
use native.Mathlib.Omega.{arith}
use borrow.Author.Tests.{leb-true}
use lib.Dec.{ltb, leb, eqb}
use lib.ListN.{length}
use Rattle.steps.specs.declared.Refusal.{Refusal}
use Rattle.steps.specs.declared.Refusal.TheVariants.{OtherKind, NotABit, OutOfRange}
use Rattle.steps.specs.Step.{Step, got, refused, next, pick, Reading}
use Rattle.steps.specs.Bytes.{byte, word, end}
use Rattle.steps.specs.Outcome.{place_of}
use Rattle.steps.proofs.Entries.{apart, next-inv, byte_next}
use Rattle.steps.proofs.Near.{Near, near-then, near-more, near-give, near-pick, near-refused, near_byte, near_word, near-end, word_next, end-there}
use Rattle.answer.specs.Answer.{Entry, Answer, tables, walk, answered, rejected}
use Rattle.answer.specs.AnswerSheet.{permitted, exactly, kind_count, walk_count, is_bit, bit, bits, is_below, below, entry, entries, tables_rest, walk_rest, answer, verdict_of, read_answer, walk_limit, longest}
use Rattle.answer.proofs.Many.{Many, bits-many, entries-many}

-- ---- the steps

near-permitted : (ok : Bool) (first n at : ℕ) → first ≤ at → Near 0 at (λ s. permitted ok first n s at)
unfolding permitted
near-permitted ok first n at l =
    near-pick ok 0 at (λ s. got n at) (λ s. refused (OtherKind first)) (near-give at n) (near-refused at (OtherKind first) l)

near-judged : (ok : ℕ → Bool) (at : ℕ) → Near 2 at (λ s. next (word s at) (λ n m. permitted (ok n) at n s m))
near-judged ok at =
    near-then 2 0 at (λ s. word s at) (λ n m s. permitted (ok n) at n s m) (near_word at)
    (λ s n m h. near-permitted (ok n) at n m (omega (arith, word_next s at n m h)))

near-exactly : (r at : ℕ) → Near 2 at (λ s. exactly r s at)
unfolding exactly
near-exactly r at = near-judged (λ n. eqb n r) at

near-kind : (rows_a at : ℕ) → Near 2 at (λ s. kind_count rows_a s at)
unfolding kind_count
near-kind rows_a at = near-judged (λ n. eqb n rows_a || eqb n 0) at

near-walk-count : (at : ℕ) → Near 2 at (λ s. walk_count s at)
unfolding walk_count
near-walk-count at = near-judged (λ n. leb 1 n && leb n walk_limit) at

near-bit : (at : ℕ) → Near 1 at (λ s. bit s at)
unfolding bit is_bit
near-bit at =
    near-then 1 0 at (λ s. byte s at) (λ b m s. pick (leb b 1) (got b m) (refused (NotABit at))) (near_byte at)
    (λ s b m h.
    near-pick (leb b 1) 0 m (λ s. got b m) (λ s. refused (NotABit at)) (near-give m b) (near-refused m (NotABit at) (omega (arith, byte_next s at b m h))))

near-below : (limit at : ℕ) → Near 2 at (λ s. below limit s at)
unfolding below is_below
near-below limit at =
    near-then 2 0 at (λ s. word s at) (λ v m s. pick (ltb v limit) (got v m) (refused (OutOfRange at))) (near_word at)
    (λ s v m h.
    near-pick (ltb v limit) 0 m (λ s. got v m) (λ s. refused (OutOfRange at)) (near-give m v) (near-refused m (OutOfRange at) (omega (arith, word_next s at v m h))))

near-entry : (claims combinations at : ℕ) → Near 4 at (λ s. entry claims combinations s at)
unfolding entry
near-entry claims combinations at =
    near-then 2 2 at (λ s. below claims s at) (λ c m s. next (below combinations s m) (λ a q. got (entry_of c a) q)) (near-below claims at)
    (λ s c m h. near-then 2 0 m (λ s. below combinations s m) (λ a q s. got (entry_of c a) q) (near-below combinations m) (λ s a q g. near-give q (entry_of c a)))
  where
    entry_of : ℕ → ℕ → Entry
    entry_of c a = record { says = c; by = a }

-- a step that is the same as another
near_same : {A : Type 0} (d at : ℕ) (m n : List ℕ → Step A) → ((s : List ℕ) → n s ≡ m s) → Near d at m → Near d at n
near_same d at m n e r = record {
  alike = λ k s t p h. e s ∙ r.alike k s t p h ∙ sym (e t);
  found = λ s a q h. r.found s a q (sym (e s) ∙ h);
  faulty = λ s w h. r.faulty s w (sym (e s) ∙ h);
}

near-many : {A : Type 0} {one : Reading A} {many : ℕ → Reading (List A)} → Many one many
    → (d : ℕ) → ((at : ℕ) → Near d at (λ s. one s at)) → (n at : ℕ) → Near (n * d) at (λ s. many n s at)
near-many {A} {one} {many} is d near zero at =
    near-more 0 (0 * d) at (λ s. many 0 s at) (omega arith) (near_same 0 at (λ s. got [] at) (λ s. many 0 s at) (λ s. is.none s at) (near-give at []))
near-many {A} {one} {many} is d near (suc n) at =
    near-more (d + (n * d + 0)) (suc n * d) at (λ s. many (suc n) s at) (omega arith)
    (near_same (d + (n * d + 0)) at (λ s. next (one s at) (λ x m. next (many n s m) (λ xs q. got (x ∷ xs) q))) (λ s. many (suc n) s at) (λ s. is.more n s at)
    (near-then d (n * d + 0) at (λ s. one s at) (λ x m s. next (many n s m) (λ xs q. got (x ∷ xs) q)) (near at)
    (λ s x m h.
    near-then (n * d) 0 m (λ s. many n s m) (λ xs q s. got (x ∷ xs) q) (near-many is d near n m) (λ s xs q g. near-give q (x ∷ xs)))))

-- ---- the whole sheet

permitted-is : (ok : Bool) (first n : ℕ) (s : List ℕ) (at v m : ℕ) → permitted ok first n s at ≡ got v m → (ok ≡ true) × (v ≡ n)
unfolding permitted
permitted-is true first n s at v m h = (refl, cc)
permitted-is false first n s at v m h = absurd (apart v m (OtherKind first) (sym h))

both_true : (a b : Bool) → (a && b) ≡ true → (a ≡ true) × (b ≡ true)
both_true true b h = (refl, h)
both_true false b h = (h, absurd (unlike h))
  where
    unlike : false ≡ true → ⊥
    unlike p = let z : ◌≡◌ {A = ℕ} 0 1 = cc in omega arith

-- a walk's count that was found is one of those permitted
pub walk-count-bounds : (s : List ℕ) (at v m : ℕ) → walk_count s at ≡ got v m → (1 ≤ v) × (v ≤ walk_limit)
unfolding walk_count
walk-count-bounds s at v m h =
    let i = next-inv (word s at) _ v m h in
    let r = permitted-is (leb 1 i.0 && leb i.0 walk_limit) at i.0 s i.1 v m i.3 in
    let b = both_true (leb 1 i.0) (leb i.0 walk_limit) r.0 in
    (omega (arith, r.1, leb-true 1 i.0 b.0), omega (arith, r.1, leb-true i.0 walk_limit b.1))

near-bits : (rows at : ℕ) → rows ≤ 256 → Near 256 at (λ s. bits rows s at)
near-bits rows at l = near-more (rows * 1) 256 at (λ s. bits rows s at) (omega arith) (near-many bits-many 1 near-bit rows at)

near-entries : (n claims combinations at : ℕ) → n ≤ walk_limit → Near 8184 at (λ s. entries n claims combinations s at)
near-entries n claims combinations at l =
    near-more (n * 4) 8184 at (λ s. entries n claims combinations s at) (omega arith)
    (near-many (entries-many claims combinations) 4 (near-entry claims combinations) n at)

near_last : (t : Answer) (at : ℕ) → Near 1 at (λ s. next (end s at) (λ e q. got t q))
near_last t at = near-then 1 0 at (λ s. end s at) (λ e q s. got t q) (near-end at) (λ s e q h. near-give q t)

near-tables : (rows_a rows_b at : ℕ) → rows_a ≤ 256 → rows_b ≤ 256 → Near 517 at (λ s. tables_rest rows_a rows_b s at)
unfolding tables_rest
near-tables rows_a rows_b at la lb =
    near-then 256 261 at (λ s. bits rows_a s at)
    (λ xs b s. next (exactly rows_b s b) (λ k c. next (bits rows_b s c) (λ ys d. next (exactly 0 s d) (λ z e. next (end s e) (λ u q. got (tables xs ys) q)))))
    (near-bits rows_a at la)
    (λ s xs b h.
    near-then 2 259 b (λ s. exactly rows_b s b)
    (λ k c s. next (bits rows_b s c) (λ ys d. next (exactly 0 s d) (λ z e. next (end s e) (λ u q. got (tables xs ys) q))))
    (near-exactly rows_b b)
    (λ s k c h.
    near-then 256 3 c (λ s. bits rows_b s c)
    (λ ys d s. next (exactly 0 s d) (λ z e. next (end s e) (λ u q. got (tables xs ys) q)))
    (near-bits rows_b c lb)
    (λ s ys d h.
    near-then 2 1 d (λ s. exactly 0 s d) (λ z e s. next (end s e) (λ u q. got (tables xs ys) q)) (near-exactly 0 d) (λ s z e h. near_last (tables xs ys) e))))

near-walk : (claims combinations at : ℕ) → Near 8189 at (λ s. walk_rest claims combinations s at)
unfolding walk_rest
near-walk claims combinations at =
    near-then 2 8187 at (λ s. exactly 0 s at)
    (λ z b s. next (walk_count s b) (λ k c. next (entries k claims combinations s c) (λ es d. next (end s d) (λ e q. got (walk es) q))))
    (near-exactly 0 at)
    (λ s z b h.
    near-then 2 8185 b (λ s. walk_count s b)
    (λ k c s. next (entries k claims combinations s c) (λ es d. next (end s d) (λ e q. got (walk es) q)))
    (near-walk-count b)
    (λ s k c h.
    near-then 8184 1 c (λ s. entries k claims combinations s c)
    (λ es d s. next (end s d) (λ e q. got (walk es) q))
    (near-entries k claims combinations c (walk-count-bounds s b k c h).1)
    (λ s es d h. near_last (walk es) d)))

near-either : {A : Type 0} (b : Bool) (d at : ℕ) (f g : Reading A) → Near d at (λ s. f s at) → Near d at (λ s. g s at) → Near d at (λ s. pick b f g s at)
near-either true d at f g p q = p
near-either false d at f g p q = q

pub answer-near : (rows_a rows_b combinations : ℕ) → rows_a ≤ 256 → rows_b ≤ 256 → Near (longest + 1) 0 (λ s. answer rows_a rows_b combinations s 0)
unfolding answer
answer-near rows_a rows_b combinations la lb =
    near-then 2 8189 0 (λ s. kind_count rows_a s 0) (λ k m s. pick (eqb k 0) (walk_rest (2 * (rows_a + rows_b)) combinations) (tables_rest rows_a rows_b) s m)
    (near-kind rows_a 0)
    (λ s k m h.
    near-either (eqb k 0) 8189 m (walk_rest (2 * (rows_a + rows_b)) combinations) (tables_rest rows_a rows_b) (near-walk (2 * (rows_a + rows_b)) combinations m)
    (near-more 517 8189 m (λ s. tables_rest rows_a rows_b s m) (omega arith) (near-tables rows_a rows_b m la lb)))

-- ---- what follows for whole sheets

refused-inv : (t : Step Answer) (w : Refusal) → verdict_of t ≡ rejected w → t ≡ refused w
refused-inv (got a m) w h = let z : ◌≡◌ {A = ℕ} 0 1 = cc in let no : ⊥ = omega arith in absurd no
refused-inv (refused v) w h = cc

answered-inv : (t : Step Answer) (a : Answer) → verdict_of t ≡ answered a → (m : ℕ) × (t ≡ got a m)
answered-inv (got b m) a h = let e : b ≡ a = cc in (m, ap (λ (x : Answer). got x m) e)
answered-inv (refused v) a h = let z : ◌≡◌ {A = ℕ} 0 1 = cc in let no : ⊥ = omega arith in absurd no

pub place-small : (rows_a rows_b combinations : ℕ) (s : List ℕ) (w : Refusal) → rows_a ≤ 256 → rows_b ≤ 256
    → read_answer rows_a rows_b combinations s ≡ rejected w → place_of w ≤ longest + 1
unfolding read_answer
place-small rows_a rows_b combinations s w la lb h =
    (answer-near rows_a rows_b combinations la lb).faulty s w (refused-inv (answer rows_a rows_b combinations s 0) w h)

-- where the rest was read from `at` on, the sheet ends no later than this
tables-short : (rows_a rows_b : ℕ) (s : List ℕ) (at : ℕ) (a : Answer) (m : ℕ) → rows_a ≤ 256 → rows_b ≤ 256 → tables_rest rows_a rows_b s at ≡ got a m → length s ≤ at + 516
unfolding tables_rest
tables-short rows_a rows_b s at a m la lb h =
    let i₁ = next-inv (bits rows_a s at) _ a m h in
    let i₂ = next-inv (exactly rows_b s i₁.1) _ a m i₁.3 in
    let i₃ = next-inv (bits rows_b s i₂.1) _ a m i₂.3 in
    let i₄ = next-inv (exactly 0 s i₃.1) _ a m i₃.3 in
    let i₅ = next-inv (end s i₄.1) _ a m i₄.3 in
    let to₁ = (near-bits rows_a at la).found s i₁.0 i₁.1 i₁.2 in
    let to₂ = (near-exactly rows_b i₁.1).found s i₂.0 i₂.1 i₂.2 in
    let to₃ = (near-bits rows_b i₂.1 lb).found s i₃.0 i₃.1 i₃.2 in
    let to₄ = (near-exactly 0 i₃.1).found s i₄.0 i₄.1 i₄.2 in
    omega (arith, end-there s i₄.1 i₅.0 i₅.1 i₅.2)

walk-short : (claims combinations : ℕ) (s : List ℕ) (at : ℕ) (a : Answer) (m : ℕ) → walk_rest claims combinations s at ≡ got a m → length s ≤ at + 8188
unfolding walk_rest
walk-short claims combinations s at a m h =
    let i₁ = next-inv (exactly 0 s at) _ a m h in
    let i₂ = next-inv (walk_count s i₁.1) _ a m i₁.3 in
    let i₃ = next-inv (entries i₂.0 claims combinations s i₂.1) _ a m i₂.3 in
    let i₄ = next-inv (end s i₃.1) _ a m i₃.3 in
    let to₁ = (near-exactly 0 at).found s i₁.0 i₁.1 i₁.2 in
    let to₂ = (near-walk-count i₁.1).found s i₂.0 i₂.1 i₂.2 in
    let most = (walk-count-bounds s i₁.1 i₂.0 i₂.1 i₂.2).1 in
    let to₃ = (near-entries i₂.0 claims combinations i₂.1 most).found s i₃.0 i₃.1 i₃.2 in
    omega (arith, end-there s i₃.1 i₄.0 i₄.1 i₄.2)

pub answered-short : (rows_a rows_b combinations : ℕ) (s : List ℕ) (a : Answer) → rows_a ≤ 256 → rows_b ≤ 256
    → read_answer rows_a rows_b combinations s ≡ answered a → length s ≤ longest
unfolding read_answer answer
answered-short rows_a rows_b combinations s a la lb h =
    let f = answered-inv (answer rows_a rows_b combinations s 0) a h in
    let i = next-inv (kind_count rows_a s 0) _ a f.0 f.1 in
    let first = (near-kind rows_a 0).found s i.0 i.1 i.2 in
    let rest = go (eqb i.0 0) i.1 f.0 i.3 in
    omega arith
  where
    go : (b : Bool) (at m : ℕ) → pick b (walk_rest (2 * (rows_a + rows_b)) combinations) (tables_rest rows_a rows_b) s at ≡ got a m → length s ≤ at + 8188
    go true at m e = walk-short (2 * (rows_a + rows_b)) combinations s at a m e
    go false at m e = let short = tables-short rows_a rows_b s at a m la lb e in omega arith
