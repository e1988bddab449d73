-- What an answered sheet has at its places: s is the sheet, for a board of ra rows of A, rb rows of B and cs combinations.
--     tables-there, TablesThere     a sheet of tables: its length, its counts, and where each row stands
--     walk-there, WalkThere         a sheet of a walk: its length, its counts, and where each entry stands
--     tables-found, walk-found      the same by sections
--     word-there, exactly-there, bits-there, entries-there      what a step that was found has at its place
-- Assumes nothing.
use mathlib.Core.Path.{◌≡◌, refl, sym, ap, ◌∙◌}
use mathlib.Core.Bool.{Bool, true, false, ◌&&◌, ◌||◌}
use mathlib.Core.List.{List, [], ◌∷◌}
use Prim.Native.Nat.{ℕ, zero, suc, ◌+◌, ◌*◌, ◌≤◌, ◌<◌}
use native.Mathlib.Nat.{add-zero, not-suc-le-zero}
use native.Mathlib.Omega.{arith}
use borrow.Author.Tests.{ltb-true, leb-true, eqb-true, eqb-false}
use lib.Dec.{ltb, leb, eqb}
use lib.ListN.{length, get_or}
use Rattle.steps.specs.declared.Refusal.{Refusal}
use Rattle.steps.specs.Step.{Step, got, refused, next, pick}
use Rattle.steps.specs.Bytes.{byte, word, end}
use Rattle.steps.proofs.Entries.{apart, next-inv, got-inj, byte-is, byte_next, byte-in}
use Rattle.steps.proofs.Near.{end-there}
use Rattle.answer.specs.Answer.{Entry, Answer, tables, walk, answered}
use Rattle.answer.specs.AnswerSheet.{walk_limit, permitted, exactly, kind_count, walk_count, is_bit, bit, bits, is_below, below, entry, entries, tables_rest, walk_rest, answer, verdict_of, read_answer}
use Rattle.answer.specs.Written.{IsPair, IsWalk, entry_at}

-- ---- numbers of two bytes

-- the number v of two bytes at the place `at`, and the place m after it
pub record Word (s : List ℕ) (at v m : ℕ) : Type 0 where
  pub value : get_or s at 0 + 256 * get_or s (at + 1) 0 ≡ v
  pub after : m ≡ at + 2
  pub room : at + 2 ≤ length s

pub word-there : (s : List ℕ) (at v m : ℕ) → word s at ≡ got v m → Word s at v m
unfolding word
word-there s at v m h =
    let i = next-inv (byte s at) _ v m h in
    let j = next-inv (byte s i.1) _ v m i.3 in
    let p : i.1 ≡ at + 1 = byte_next s at i.0 i.1 i.2 in
    let q : j.1 ≡ i.1 + 1 = byte_next s i.1 j.0 j.1 j.2 in
    let low : i.0 ≡ get_or s at 0 = byte-is s at i.0 i.1 i.2 in
    let high : j.0 ≡ get_or s (at + 1) 0 = byte-is s i.1 j.0 j.1 j.2 ∙ ap (λ (k : ℕ). get_or s k 0) p in
    let e : i.0 + 256 * j.0 ≡ v = cc j.3 in
    let f : j.1 ≡ m = cc j.3 in
    record {
      value = omega arith;
      after = omega arith;
      room = omega (arith, byte-in s i.1 j.0 j.1 j.2);
    }

-- a value that was kept passed its test
pub kept : (b : Bool) (x y v n : ℕ) (w : Refusal) → pick b (got x y) (refused w) ≡ got v n → (b ≡ true) × (x ≡ v) × (y ≡ n)
kept true x y v n w h = (refl, cc, cc)
kept false x y v n w h = absurd (apart v n w (sym h))

-- a count that was found passed its test
counted-there : (test : ℕ → Bool) (s : List ℕ) (at v m : ℕ) → next (word s at) (λ n a. permitted (test n) at n s a) ≡ got v m
    → (test v ≡ true) × Word s at v m
unfolding permitted
counted-there test s at v m h =
    let i = next-inv (word s at) _ v m h in
    let k = kept (test i.0) _ _ v m _ i.3 in
    let found : word s at ≡ got v m = i.2 ∙ (λ x. got (k.1 x) (k.2 x)) in
    (sym (ap test k.1) ∙ k.0, word-there s at v m found)

pub exactly-there : (r : ℕ) (s : List ℕ) (at v m : ℕ) → exactly r s at ≡ got v m → Word s at r m
unfolding exactly
exactly-there r s at v m h =
    let c = counted-there (λ n. eqb n r) s at v m h in
    let e : v ≡ r = eqb-true v r c.0 in
    rw (← e) c.1

below-there : (limit : ℕ) (s : List ℕ) (at v m : ℕ) → below limit s at ≡ got v m → (v < limit) × Word s at v m
unfolding below is_below
below-there limit s at v m h =
    let i = next-inv (word s at) _ v m h in
    let k = kept (ltb i.0 limit) _ _ v m _ i.3 in
    let found : word s at ≡ got v m = i.2 ∙ (λ x. got (k.1 x) (k.2 x)) in
    (omega (arith, ltb-true i.0 limit k.0, k.1), word-there s at v m found)

-- ---- tables

-- n rows bs that stand from the place `at` on, and the place m after them
pub record Rows (s : List ℕ) (at n : ℕ) (bs : List ℕ) (m : ℕ) : Type 0 where
  pub long : length bs ≡ n
  pub after : m ≡ at + n
  pub stand : (r : ℕ) → r < n → get_or s (at + r) 0 ≡ get_or bs r 0
  pub bits : (r : ℕ) → r < n → get_or bs r 0 < 2

bit-there : (s : List ℕ) (at v m : ℕ) → bit s at ≡ got v m → (v < 2) × (v ≡ get_or s at 0) × (m ≡ at + 1)
unfolding bit is_bit
bit-there s at v m h =
    let i = next-inv (byte s at) _ v m h in
    let k = kept (leb i.0 1) _ _ v m _ i.3 in
    let e : i.0 ≡ v = k.1 in
    let f : i.1 ≡ m = k.2 in
    (omega (arith, leb-true i.0 1 k.0), sym e ∙ byte-is s at i.0 i.1 i.2, sym f ∙ byte_next s at i.0 i.1 i.2)

rows_none : (s : List ℕ) (at : ℕ) → Rows s at 0 [] at
rows_none s at = record {
  long = refl;
  after = omega arith;
  stand = λ r h. absurd (not-suc-le-zero h);
  bits = λ r h. absurd (not-suc-le-zero h);
}

rows_more : (s : List ℕ) (at n b : ℕ) (bs : List ℕ) (m : ℕ) → b < 2 → b ≡ get_or s at 0 → Rows s (at + 1) n bs m → Rows s at (suc n) (b ∷ bs) m
rows_more s at n b bs m l e rest = record {
  long = ap suc rest.long;
  after = omega (arith, rest.after);
  stand = stands;
  bits = all;
}
  where
    stands : (r : ℕ) → r < suc n → get_or s (at + r) 0 ≡ get_or (b ∷ bs) r 0
    stands zero h = ap (λ (k : ℕ). get_or s k 0) (add-zero at) ∙ sym e
    stands (suc r) h =
        let p : at + suc r ≡ at + 1 + r = omega arith in
        ap (λ (k : ℕ). get_or s k 0) p ∙ rest.stand r (omega arith)

    all : (r : ℕ) → r < suc n → get_or (b ∷ bs) r 0 < 2
    all zero h = l
    all (suc r) h = rest.bits r (omega arith)

pub bits-there : (n : ℕ) (s : List ℕ) (at : ℕ) (bs : List ℕ) (m : ℕ) → bits n s at ≡ got bs m → Rows s at n bs m
unfolding bits
bits-there zero s at bs m h =
    let e : [] ≡ bs = got-inj [] bs at m h in
    let f : at ≡ m = cc in
    rw (← e, ← f) (rows_none s at)
bits-there (suc n) s at bs m h =
    let i = next-inv (bit s at) _ bs m h in
    let j = next-inv (bits n s i.1) _ bs m i.3 in
    let b = bit-there s at i.0 i.1 i.2 in
    let e : i.0 ∷ j.0 ≡ bs = got-inj _ bs _ m j.3 in
    let f : j.1 ≡ m = cc j.3 in
    let found : bits n s (at + 1) ≡ got j.0 m = ap (bits n s) (sym b.2) ∙ j.2 ∙ ap (got j.0) f in
    let rest = bits-there n s (at + 1) j.0 m found in
    rw (← e) (rows_more s at n i.0 j.0 m b.0 b.1 rest)

-- ---- walks

-- n entries es that stand from the place `at` on, of claims and combinations that there are, and the place m after them
pub record Entries (claims combinations : ℕ) (s : List ℕ) (at n : ℕ) (es : List Entry) (m : ℕ) : Type 0 where
  pub long : length es ≡ n
  pub after : m ≡ at + 4 * n
  pub room : at ≤ length s → m ≤ length s
  pub says : (i : ℕ) → i < n → get_or s (at + 4 * i) 0 + 256 * get_or s (at + 4 * i + 1) 0 ≡ (entry_at es i).says
  pub by : (i : ℕ) → i < n → get_or s (at + 4 * i + 2) 0 + 256 * get_or s (at + 4 * i + 3) 0 ≡ (entry_at es i).by
  pub claim : (i : ℕ) → i < n → (entry_at es i).says < claims
  pub combination : (i : ℕ) → i < n → (entry_at es i).by < combinations

-- one entry e that stands at the place `at`, and the place m after it
pub record Four (claims combinations : ℕ) (s : List ℕ) (at : ℕ) (e : Entry) (m : ℕ) : Type 0 where
  pub after : m ≡ at + 4
  pub room : m ≤ length s
  pub says : get_or s at 0 + 256 * get_or s (at + 1) 0 ≡ e.says
  pub by : get_or s (at + 2) 0 + 256 * get_or s (at + 3) 0 ≡ e.by
  pub claim : e.says < claims
  pub combination : e.by < combinations

entry-there : (claims combinations : ℕ) (s : List ℕ) (at : ℕ) (e : Entry) (m : ℕ) → entry claims combinations s at ≡ got e m
    → Four claims combinations s at e m
unfolding entry
entry-there claims combinations s at e m h =
    let i = next-inv (below claims s at) _ e m h in
    let j = next-inv (below combinations s i.1) _ e m i.3 in
    let a = below-there claims s at i.0 i.1 i.2 in
    let b = below-there combinations s i.1 j.0 j.1 j.2 in
    let same : record { says = i.0; by = j.0 } ≡ e = got-inj _ e _ m j.3 in
    let f : j.1 ≡ m = cc j.3 in
    let at₂ : i.1 ≡ at + 2 = a.1.after in
    let at₃ : i.1 + 1 ≡ at + 3 = omega arith in
    let x : i.0 ≡ e.says = ap (λ (e : Entry). e.says) same in
    let y : j.0 ≡ e.by = ap (λ (e : Entry). e.by) same in
    let low : get_or s i.1 0 ≡ get_or s (at + 2) 0 = ap (λ (k : ℕ). get_or s k 0) at₂ in
    let high : get_or s (i.1 + 1) 0 ≡ get_or s (at + 3) 0 = ap (λ (k : ℕ). get_or s k 0) at₃ in
    record {
      after = omega (arith, b.1.after);
      room = omega (arith, b.1.after, b.1.room);
      says = omega (arith, a.1.value);
      by = omega (arith, b.1.value);
      claim = omega (arith, a.0);
      combination = omega (arith, b.0);
    }

pub entries_none : (claims combinations : ℕ) (s : List ℕ) (at : ℕ) → Entries claims combinations s at 0 [] at
entries_none claims combinations s at = record {
  long = refl;
  after = omega arith;
  room = λ l. l;
  says = λ i h. absurd (not-suc-le-zero h);
  by = λ i h. absurd (not-suc-le-zero h);
  claim = λ i h. absurd (not-suc-le-zero h);
  combination = λ i h. absurd (not-suc-le-zero h);
}

-- a number of two bytes at equal places
pub two_at : (s : List ℕ) (a b c d : ℕ) → a ≡ c → b ≡ d → get_or s a 0 + 256 * get_or s b 0 ≡ get_or s c 0 + 256 * get_or s d 0
two_at s a b c d p q = rw (p, q)

pub entries-more : (claims combinations : ℕ) (s : List ℕ) (at n : ℕ) (e : Entry) (es : List Entry) (m : ℕ) → Four claims combinations s at e (at + 4)
    → Entries claims combinations s (at + 4) n es m → Entries claims combinations s at (suc n) (e ∷ es) m
entries-more claims combinations s at n e es m first rest = record {
  long = ap suc rest.long;
  after = omega (arith, rest.after);
  room = λ l. rest.room first.room;
  says = says_all;
  by = by_all;
  claim = claim-all;
  combination = combination-all;
}
  where
    says_all : (i : ℕ) → i < suc n → get_or s (at + 4 * i) 0 + 256 * get_or s (at + 4 * i + 1) 0 ≡ (entry_at (e ∷ es) i).says
    says_all zero h = two_at s (at + 4 * 0) (at + 4 * 0 + 1) at (at + 1) (omega arith) (omega arith) ∙ first.says
    says_all (suc i) h =
        two_at s (at + 4 * suc i) (at + 4 * suc i + 1) (at + 4 + 4 * i) (at + 4 + 4 * i + 1) (omega arith) (omega arith)
        ∙ rest.says i (omega arith)

    by_all : (i : ℕ) → i < suc n → get_or s (at + 4 * i + 2) 0 + 256 * get_or s (at + 4 * i + 3) 0 ≡ (entry_at (e ∷ es) i).by
    by_all zero h = two_at s (at + 4 * 0 + 2) (at + 4 * 0 + 3) (at + 2) (at + 3) (omega arith) (omega arith) ∙ first.by
    by_all (suc i) h =
        two_at s (at + 4 * suc i + 2) (at + 4 * suc i + 3) (at + 4 + 4 * i + 2) (at + 4 + 4 * i + 3) (omega arith) (omega arith)
        ∙ rest.by i (omega arith)

    claim-all : (i : ℕ) → i < suc n → (entry_at (e ∷ es) i).says < claims
    claim-all zero h = first.claim
    claim-all (suc i) h = rest.claim i (omega arith)

    combination-all : (i : ℕ) → i < suc n → (entry_at (e ∷ es) i).by < combinations
    combination-all zero h = first.combination
    combination-all (suc i) h = rest.combination i (omega arith)

pub entries-there : (n claims combinations : ℕ) (s : List ℕ) (at : ℕ) (es : List Entry) (m : ℕ) → entries n claims combinations s at ≡ got es m
    → Entries claims combinations s at n es m
unfolding entries
entries-there zero claims combinations s at es m h =
    let e : [] ≡ es = got-inj [] es at m h in
    let f : at ≡ m = cc in
    rw (← e, ← f) (entries_none claims combinations s at)
entries-there (suc n) claims combinations s at es m h =
    let i = next-inv (entry claims combinations s at) _ es m h in
    let j = next-inv (entries n claims combinations s i.1) _ es m i.3 in
    let first = entry-there claims combinations s at i.0 i.1 i.2 in
    let e : i.0 ∷ j.0 ≡ es = got-inj _ es _ m j.3 in
    let f : j.1 ≡ m = cc j.3 in
    let found : entries n claims combinations s (at + 4) ≡ got j.0 m = ap (entries n claims combinations s) (sym first.after) ∙ j.2 ∙ ap (got j.0) f in
    let rest = entries-there n claims combinations s (at + 4) j.0 m found in
    rw (← e) (entries-more claims combinations s at n i.0 j.0 m (rw (← first.after) first) rest)

-- ---- whole sheets

pub record TablesThere (ra rb : ℕ) (s xs ys : List ℕ) : Type 0 where
  pub pair : IsPair ra rb xs ys
  pub at_a : (r : ℕ) → r < ra → get_or s (2 + r) 0 ≡ get_or xs r 0
  pub at_b : (r : ℕ) → r < rb → get_or s (4 + ra + r) 0 ≡ get_or ys r 0
  pub long : length s ≡ 6 + ra + rb
  -- there are rows of A, and the three counts
  pub some : 0 < ra
  pub count_a : get_or s 0 0 + 256 * get_or s 1 0 ≡ ra
  pub count_b : get_or s (2 + ra) 0 + 256 * get_or s (3 + ra) 0 ≡ rb
  pub count_walk : get_or s (4 + ra + rb) 0 + 256 * get_or s (5 + ra + rb) 0 ≡ 0

pub record WalkThere (ra rb cs : ℕ) (s : List ℕ) (es : List Entry) : Type 0 where
  pub walks : IsWalk (2 * (ra + rb)) cs es
  pub at_claim : (i : ℕ) → i < length es → get_or s (6 + 4 * i) 0 + 256 * get_or s (7 + 4 * i) 0 ≡ (entry_at es i).says
  pub at_combination : (i : ℕ) → i < length es → get_or s (8 + 4 * i) 0 + 256 * get_or s (9 + 4 * i) 0 ≡ (entry_at es i).by
  pub long : length s ≡ 6 + 4 * length es
  -- the three counts
  pub count_a : get_or s 0 0 + 256 * get_or s 1 0 ≡ 0
  pub count_b : get_or s 2 0 + 256 * get_or s 3 0 ≡ 0
  pub count_walk : get_or s 4 0 + 256 * get_or s 5 0 ≡ length es

-- an answer that was found
pub answered-inv : (t : Step Answer) (a : Answer) → verdict_of t ≡ answered a → (m : ℕ) × (t ≡ got a m)
answered-inv (got b m) a h = let e : b ≡ a = cc in (m, ap (λ (x : Answer). got x m) e)
answered-inv (refused w) a h = let z : ◌≡◌ {A = ℕ} 0 1 = cc in let no : ⊥ = omega arith in absurd no

differ : (xs ys : List ℕ) (es : List Entry) → tables xs ys ≡ walk es → ⊥
differ xs ys es h = let z : ◌≡◌ {A = ℕ} 0 1 = cc in omega arith

-- the sections of a sheet of tables from the place `at` on, after the first count
pub record TableSections (ra rb : ℕ) (s : List ℕ) (at : ℕ) (xs ys : List ℕ) : Type 0 where
  pub rows_a : Rows s at ra xs (at + ra)
  pub count_b : Word s (at + ra) rb (at + ra + 2)
  pub rows_b : Rows s (at + ra + 2) rb ys (at + ra + 2 + rb)
  pub count_walk : Word s (at + ra + 2 + rb) 0 (at + ra + 2 + rb + 2)
  pub last : length s ≡ at + ra + 2 + rb + 2

-- where rows end, and where a number ends, is settled by where they begin
rows_end : (s : List ℕ) (at from n : ℕ) (bs : List ℕ) (m : ℕ) → from ≡ at → Rows s from n bs m → Rows s at n bs (at + n)
rows_end s at from n bs m p r =
    let e : m ≡ at + n = omega (arith, r.after) in
    rw (← e, ← p) r

word_end : (s : List ℕ) (at from v m : ℕ) → from ≡ at → Word s from v m → Word s at v (at + 2)
word_end s at from v m p w =
    let e : m ≡ at + 2 = omega (arith, w.after) in
    rw (← e, ← p) w

-- what follows the first count
module _ (s : List ℕ) (at : ℕ) where
  tables-sections : (ra rb : ℕ) (xs ys : List ℕ) (m : ℕ) → tables_rest ra rb s at ≡ got (tables xs ys) m → TableSections ra rb s at xs ys
  unfolding tables_rest
  tables-sections ra rb xs ys m h =
      let i₁ = next-inv (bits ra s at) _ (tables xs ys) m h in
      let i₂ = next-inv (exactly rb s i₁.1) _ (tables xs ys) m i₁.3 in
      let i₃ = next-inv (bits rb s i₂.1) _ (tables xs ys) m i₂.3 in
      let i₄ = next-inv (exactly 0 s i₃.1) _ (tables xs ys) m i₃.3 in
      let i₅ = next-inv (end s i₄.1) _ (tables xs ys) m i₄.3 in
      let same : tables i₁.0 i₃.0 ≡ tables xs ys = got-inj _ (tables xs ys) _ m i₅.3 in
      let ea : i₁.0 ≡ xs = cc in
      let eb : i₃.0 ≡ ys = cc in
      let a = bits-there ra s at i₁.0 i₁.1 i₁.2 in
      let cb = exactly-there rb s i₁.1 i₂.0 i₂.1 i₂.2 in
      let b = bits-there rb s i₂.1 i₃.0 i₃.1 i₃.2 in
      let cw = exactly-there 0 s i₃.1 i₄.0 i₄.1 i₄.2 in
      let p₁ : i₁.1 ≡ at + ra = a.after in
      let p₂ : i₂.1 ≡ at + ra + 2 = omega (arith, cb.after) in
      let p₃ : i₃.1 ≡ at + ra + 2 + rb = omega (arith, b.after) in
      let z : length s ≤ i₄.1 = end-there s i₄.1 i₅.0 i₅.1 i₅.2 in
      record {
        rows_a = rw (← ea) (rows_end s at at ra i₁.0 i₁.1 refl a);
        count_b = word_end s (at + ra) i₁.1 rb i₂.1 p₁ cb;
        rows_b = rw (← eb) (rows_end s (at + ra + 2) i₂.1 rb i₃.0 i₃.1 p₂ b);
        count_walk = word_end s (at + ra + 2 + rb) i₃.1 0 i₄.1 p₃ cw;
        last = omega (arith, cw.after, cw.room);
      }

  not-walk : (ra rb : ℕ) (es : List Entry) (m : ℕ) → tables_rest ra rb s at ≡ got (walk es) m → ⊥
  unfolding tables_rest
  not-walk ra rb es m h =
      let i₁ = next-inv (bits ra s at) _ (walk es) m h in
      let i₂ = next-inv (exactly rb s i₁.1) _ (walk es) m i₁.3 in
      let i₃ = next-inv (bits rb s i₂.1) _ (walk es) m i₂.3 in
      let i₄ = next-inv (exactly 0 s i₃.1) _ (walk es) m i₃.3 in
      let i₅ = next-inv (end s i₄.1) _ (walk es) m i₄.3 in
      differ i₁.0 i₃.0 es (got-inj _ (walk es) _ m i₅.3)

  not-tables : (claims combinations : ℕ) (xs ys : List ℕ) (m : ℕ) → walk_rest claims combinations s at ≡ got (tables xs ys) m → ⊥
  unfolding walk_rest
  not-tables claims combinations xs ys m h =
      let i₁ = next-inv (exactly 0 s at) _ (tables xs ys) m h in
      let i₂ = next-inv (walk_count s i₁.1) _ (tables xs ys) m i₁.3 in
      let i₃ = next-inv (entries i₂.0 claims combinations s i₂.1) _ (tables xs ys) m i₂.3 in
      let i₄ = next-inv (end s i₃.1) _ (tables xs ys) m i₃.3 in
      differ xs ys i₃.0 (sym (got-inj _ (tables xs ys) _ m i₄.3))

both : (a b : Bool) → (a && b) ≡ true → (a ≡ true) × (b ≡ true)
both true b h = (refl, h)
both false b h = let z : false ≡ true = h in (z, cc)

other : (a b : Bool) → (a || b) ≡ true → b ≡ false → a ≡ true
other true b h g = refl
other false b h g = sym g ∙ h

walk-count-there : (s : List ℕ) (at v m : ℕ) → walk_count s at ≡ got v m → (1 ≤ v) × (v ≤ walk_limit) × Word s at v m
unfolding walk_count
walk-count-there s at v m h =
    let c = counted-there (λ n. leb 1 n && leb n walk_limit) s at v m h in
    let b = both (leb 1 v) (leb v walk_limit) c.0 in
    (leb-true 1 v b.0, leb-true v walk_limit b.1, c.1)

-- the sections of a sheet of a walk from the place `at` on, after the first count
pub record WalkSections (claims combinations : ℕ) (s : List ℕ) (at : ℕ) (es : List Entry) : Type 0 where
  pub count_b : Word s at 0 (at + 2)
  pub some : 1 ≤ length es
  pub most : length es ≤ walk_limit
  pub count_walk : Word s (at + 2) (length es) (at + 2 + 2)
  pub all : Entries claims combinations s (at + 4) (length es) es (at + 4 + 4 * length es)
  pub last : length s ≡ at + 4 + 4 * length es

walk-sections : (s : List ℕ) (at claims combinations : ℕ) (es : List Entry) (m : ℕ) → walk_rest claims combinations s at ≡ got (walk es) m
    → WalkSections claims combinations s at es
unfolding walk_rest
walk-sections s at claims combinations es m h =
    let i₁ = next-inv (exactly 0 s at) _ (walk es) m h in
    let i₂ = next-inv (walk_count s i₁.1) _ (walk es) m i₁.3 in
    let i₃ = next-inv (entries i₂.0 claims combinations s i₂.1) _ (walk es) m i₂.3 in
    let i₄ = next-inv (end s i₃.1) _ (walk es) m i₃.3 in
    let same : walk i₃.0 ≡ walk es = got-inj _ (walk es) _ m i₄.3 in
    let e : i₃.0 ≡ es = cc in
    let cb = exactly-there 0 s at i₁.0 i₁.1 i₁.2 in
    let cw = walk-count-there s i₁.1 i₂.0 i₂.1 i₂.2 in
    let p₁ : i₁.1 ≡ at + 2 = cb.after in
    let p₂ : i₂.1 ≡ at + 4 = omega (arith, cw.2.after) in
    let found : entries i₂.0 claims combinations s (at + 4) ≡ got es i₃.1 = ap (entries i₂.0 claims combinations s) (sym p₂) ∙ i₃.2 ∙ ap (λ (l : List Entry). got l i₃.1) e in
    let all = entries-there i₂.0 claims combinations s (at + 4) es i₃.1 found in
    let n : length es ≡ i₂.0 = all.long in
    let to : i₃.1 ≡ at + 4 + 4 * length es = omega (arith, all.after) in
    let z : length s ≤ i₃.1 = end-there s i₃.1 i₄.0 i₄.1 i₄.2 in
    let y : i₃.1 ≤ length s = all.room (omega (arith, cw.2.room, cw.2.after)) in
    record {
      count_b = word_end s at at 0 i₁.1 refl cb;
      some = omega (arith, cw.0);
      most = omega (arith, cw.1);
      count_walk = rw n (word_end s (at + 2) i₁.1 i₂.0 i₂.1 p₁ cw.2);
      all = rw (← to, n) all;
      last = omega arith;
    }

-- the first count settles which of the two follows
module _ (ra rb cs : ℕ) (s : List ℕ) where
  kind-there : (k m : ℕ) → kind_count ra s 0 ≡ got k m → ((eqb k ra || eqb k 0) ≡ true) × Word s 0 k m
  unfolding kind_count
  kind-there k m h = counted-there (λ n. eqb n ra || eqb n 0) s 0 k m h

  tables-kind : (b : Bool) (at : ℕ) (xs ys : List ℕ) (m : ℕ) → pick b (walk_rest (2 * (ra + rb)) cs) (tables_rest ra rb) s at ≡ got (tables xs ys) m
      → (b ≡ false) × (tables_rest ra rb s at ≡ got (tables xs ys) m)
  tables-kind true at xs ys m h = absurd (not-tables s at (2 * (ra + rb)) cs xs ys m h)
  tables-kind false at xs ys m h = (refl, h)

  walk-kind : (b : Bool) (at : ℕ) (es : List Entry) (m : ℕ) → pick b (walk_rest (2 * (ra + rb)) cs) (tables_rest ra rb) s at ≡ got (walk es) m
      → (b ≡ true) × (walk_rest (2 * (ra + rb)) cs s at ≡ got (walk es) m)
  walk-kind true at es m h = (refl, h)
  walk-kind false at es m h = absurd (not-walk s at ra rb es m h)

  pub tables-found : (xs ys : List ℕ) → read_answer ra rb cs s ≡ answered (tables xs ys) → (0 < ra) × Word s 0 ra 2 × TableSections ra rb s 2 xs ys
  unfolding read_answer answer
  tables-found xs ys h =
      let a = answered-inv (answer ra rb cs s 0) (tables xs ys) h in
      let i = next-inv (kind_count ra s 0) _ (tables xs ys) a.0 a.1 in
      let k = kind-there i.0 i.1 i.2 in
      let t = tables-kind (eqb i.0 0) i.1 xs ys a.0 i.3 in
      let e : i.0 ≡ ra = eqb-true i.0 ra (other (eqb i.0 ra) (eqb i.0 0) k.0 t.0) in
      let some : 0 < ra = nonzero ra (λ z. eqb-false i.0 0 t.0 (e ∙ z)) in
      let p : i.1 ≡ 2 = omega (arith, k.1.after) in
      let found : tables_rest ra rb s 2 ≡ got (tables xs ys) a.0 = ap (tables_rest ra rb s) (sym p) ∙ t.1 in
      (some, rw (← e) (word_end s 0 0 i.0 i.1 refl k.1), tables-sections s 2 ra rb xs ys a.0 found)
    where
      nonzero : (n : ℕ) → (n ≡ 0 → ⊥) → 0 < n
      nonzero zero f = absurd (f refl)
      nonzero (suc n) f = omega arith

  pub walk-found : (es : List Entry) → read_answer ra rb cs s ≡ answered (walk es) → Word s 0 0 2 × WalkSections (2 * (ra + rb)) cs s 2 es
  unfolding read_answer answer
  walk-found es h =
      let a = answered-inv (answer ra rb cs s 0) (walk es) h in
      let i = next-inv (kind_count ra s 0) _ (walk es) a.0 a.1 in
      let k = kind-there i.0 i.1 i.2 in
      let t = walk-kind (eqb i.0 0) i.1 es a.0 i.3 in
      let e : i.0 ≡ 0 = eqb-true i.0 0 t.0 in
      let p : i.1 ≡ 2 = omega (arith, k.1.after) in
      let found : walk_rest (2 * (ra + rb)) cs s 2 ≡ got (walk es) a.0 = ap (walk_rest (2 * (ra + rb)) cs s) (sym p) ∙ t.1 in
      let w : Word s 0 i.0 2 = word_end s 0 0 i.0 i.1 refl k.1 in
      (record { value = w.value ∙ e; after = refl; room = w.room }, walk-sections s 2 (2 * (ra + rb)) cs es a.0 found)

  pub tables-there : (xs ys : List ℕ) → read_answer ra rb cs s ≡ answered (tables xs ys) → TablesThere ra rb s xs ys
  tables-there xs ys h =
      let f = tables-found xs ys h in
      let w = f.1 in
      let t = f.2 in
      record {
        pair = record {
          long_a = t.rows_a.long;
          long_b = t.rows_b.long;
          bits_a = t.rows_a.bits;
          bits_b = t.rows_b.bits;
        };
        at_a = t.rows_a.stand;
        at_b = λ r l. let p : 4 + ra + r ≡ 2 + ra + 2 + r = omega arith in ap (λ (k : ℕ). get_or s k 0) p ∙ t.rows_b.stand r l;
        long = omega (arith, t.last);
        some = f.0;
        count_a = w.value;
        count_b = two_at s (2 + ra) (3 + ra) (2 + ra) (2 + ra + 1) refl (omega arith) ∙ t.count_b.value;
        count_walk = two_at s (4 + ra + rb) (5 + ra + rb) (2 + ra + 2 + rb) (2 + ra + 2 + rb + 1) (omega arith) (omega arith) ∙ t.count_walk.value;
      }

  pub walk-there : (es : List Entry) → read_answer ra rb cs s ≡ answered (walk es) → WalkThere ra rb cs s es
  walk-there es h =
      let f = walk-found es h in
      let t = f.1 in
      record {
        walks = record { some = t.some; most = t.most; claim = t.all.claim; combination = t.all.combination };
        at_claim = λ i l. two_at s (6 + 4 * i) (7 + 4 * i) (6 + 4 * i) (6 + 4 * i + 1) refl (omega arith) ∙ t.all.says i l;
        at_combination = λ i l. two_at s (8 + 4 * i) (9 + 4 * i) (6 + 4 * i + 2) (6 + 4 * i + 3) (omega arith) (omega arith) ∙ t.all.by i l;
        long = omega (arith, t.last);
        count_a = f.0.value;
        count_b = t.count_b.value;
        count_walk = t.count_walk.value;
      }
