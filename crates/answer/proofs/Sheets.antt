-- Reading and writing answer sheets are inverse.
--     tables-read, walk-read        the written sheet is read as what was written
--     tables-sheet, walk-sheet      a sheet of bytes that is read so is the written one
--     tables-length, walk-length    how long the written sheets are
--     tables-bytes, walk-bytes      written sheets are bytes, where the counts, claims and combinations fit two bytes
--     tables-back, walk-back        a sheet whose sections stand at their places is read as them
-- Assumes nothing.
use mathlib.Core.Path.{◌≡◌, refl, sym, ap, ap₂, ◌∙◌}
use mathlib.Core.Bool.{Bool, true, ◌&&◌, ◌||◌, or-true}
use mathlib.Core.List.{List, [], ◌∷◌, ◌++◌, append-nil, append_assoc}
use Prim.Native.Nat.{ℕ, zero, suc, ◌+◌, ◌*◌, ◌/◌, ◌%◌, ◌≤◌, ◌<◌}
use native.Mathlib.Nat.{add-zero, not-suc-le-zero}
use native.Mathlib.Numerals.{add-one}
use native.Mathlib.Omega.{arith}
use borrow.Author.Tests.{lt-ltb, le-leb, eq-eqb, ne_eqb}
use lib.Dec.{leb, eqb}
use lib.ListN.{length, get_or, drop, length-append, get_or-append, drop_of_length-le}
use lib.Seq.{drop-cons, get_or-append-add, get_or-append_seam}
use Rattle.steps.specs.Step.{got, next}
use Rattle.steps.specs.Bytes.{word}
use Rattle.steps.proofs.Near.{byte-there, end_read}
use Rattle.answer.specs.Answer.{Entry, tables, walk, answered}
use Rattle.answer.specs.AnswerSheet.{walk_limit, permitted, exactly, kind_count, walk_count, is_bit, bit, bits, is_below, below, entry, entries, tables_rest, walk_rest, answer, read_answer}
use Rattle.answer.specs.Written.{two, table, four, fours, tables_sheet, walk_sheet, Bytes, IsPair, IsWalk, entry_at}
use Rattle.answer.proofs.There.{Word, Rows, Entries, Four, TableSections, WalkSections, two_at, entries_none, entries-more, tables-found, walk-found}

-- ---- what stands at a place is found there

word_read : (s : List ℕ) (at v m : ℕ) → Word s at v m → word s at ≡ got v m
unfolding word
word_read s at v m w =
    let low = byte-there s at (omega (arith, w.room)) in
    let high = byte-there s (at + 1) (omega (arith, w.room)) in
    let place : at + 1 + 1 ≡ m = omega (arith, w.after) in
    rw (low, high) (λ i. got (w.value i) (place i))

counted-read : (test : ℕ → Bool) (s : List ℕ) (at v m : ℕ) → test v ≡ true → Word s at v m → next (word s at) (λ n a. permitted (test n) at n s a) ≡ got v m
unfolding permitted
counted-read test s at v m e w = rw (word_read s at v m w, e)

exactly-read : (r : ℕ) (s : List ℕ) (at m : ℕ) → Word s at r m → exactly r s at ≡ got r m
unfolding exactly
exactly-read r s at m w = counted-read (λ n. eqb n r) s at r m (eq-eqb r r refl) w

walk-count-read : (s : List ℕ) (at v m : ℕ) → 1 ≤ v → v ≤ walk_limit → Word s at v m → walk_count s at ≡ got v m
unfolding walk_count
walk-count-read s at v m l h w =
    counted-read (λ n. leb 1 n && leb n walk_limit) s at v m (rw (le-leb 1 v l, le-leb v walk_limit h)) w

below-read : (limit : ℕ) (s : List ℕ) (at v m : ℕ) → v < limit → Word s at v m → below limit s at ≡ got v m
unfolding below is_below
below-read limit s at v m l w = rw (word_read s at v m w, lt-ltb v limit l)

module _ (s : List ℕ) (at n b : ℕ) (bs : List ℕ) (m : ℕ) (all : Rows s at (suc n) (b ∷ bs) m) where
  rows-first : get_or s at 0 ≡ b
  rows-first = ap (λ (k : ℕ). get_or s k 0) (sym (add-zero at)) ∙ all.stand 0 (omega arith)

  rows-rest : Rows s (at + 1) n bs m
  rows-rest = record {
    long = let e : suc (length bs) ≡ suc n = all.long in omega arith;
    after = omega (arith, all.after);
    stand = λ r l. let p : at + 1 + r ≡ at + suc r = omega arith in ap (λ (k : ℕ). get_or s k 0) p ∙ all.stand (suc r) (omega arith);
    bits = λ r l. all.bits (suc r) (omega arith);
  }

bits-read : (s : List ℕ) (at : ℕ) (bs : List ℕ) (m : ℕ) → m ≤ length s → Rows s at (length bs) bs m → bits (length bs) s at ≡ got bs m
unfolding bits bit is_bit
bits-read s at [] m l all = let p : at ≡ m = omega (arith, all.after) in ap (got []) p
bits-read s at (b ∷ bs) m l all =
    let there = byte-there s at (omega (arith, all.after)) in
    let first = rows-first s at (length bs) b bs m all in
    let small : b ≤ 1 = omega (arith, all.bits 0 (omega arith)) in
    let rest = bits-read s (at + 1) bs m l (rows-rest s at (length bs) b bs m all) in
    rw (there, first, le-leb b 1 small, rest)

rows-read : (s : List ℕ) (at n : ℕ) (bs : List ℕ) (m : ℕ) → m ≤ length s → Rows s at n bs m → bits n s at ≡ got bs m
rows-read s at n bs m l all =
    let e : length bs ≡ n = all.long in
    ap (λ (k : ℕ). bits k s at) (sym e) ∙ bits-read s at bs m l (rw e all)

module _ (claims combinations : ℕ) (s : List ℕ) (at n : ℕ) (e : Entry) (es : List Entry) (m : ℕ) (l : m ≤ length s)
    (all : Entries claims combinations s at (suc n) (e ∷ es) m) where
  entries-says : Word s at e.says (at + 2)
  entries-says = record {
    value = two_at s at (at + 1) (at + 4 * 0) (at + 4 * 0 + 1) (omega arith) (omega arith) ∙ all.says 0 (omega arith);
    after = refl;
    room = omega (arith, all.after);
  }

  entries_by : Word s (at + 2) e.by (at + 4)
  entries_by = record {
    value = two_at s (at + 2) (at + 2 + 1) (at + 4 * 0 + 2) (at + 4 * 0 + 3) (omega arith) (omega arith) ∙ all.by 0 (omega arith);
    after = omega arith;
    room = omega (arith, all.after);
  }

  entries-rest : Entries claims combinations s (at + 4) n es m
  entries-rest = record {
    long = let e : suc (length es) ≡ suc n = all.long in omega arith;
    after = omega (arith, all.after);
    room = λ k. l;
    says = λ i h. two_at s (at + 4 + 4 * i) (at + 4 + 4 * i + 1) (at + 4 * suc i) (at + 4 * suc i + 1) (omega arith) (omega arith) ∙ all.says (suc i) (omega arith);
    by = λ i h. two_at s (at + 4 + 4 * i + 2) (at + 4 + 4 * i + 3) (at + 4 * suc i + 2) (at + 4 * suc i + 3) (omega arith) (omega arith) ∙ all.by (suc i) (omega arith);
    claim = λ i h. all.claim (suc i) (omega arith);
    combination = λ i h. all.combination (suc i) (omega arith);
  }

entries-read : (claims combinations : ℕ) (s : List ℕ) (at : ℕ) (es : List Entry) (m : ℕ) → m ≤ length s
    → Entries claims combinations s at (length es) es m → entries (length es) claims combinations s at ≡ got es m
unfolding entries entry
entries-read claims combinations s at [] m l all = let p : at ≡ m = omega (arith, all.after) in ap (got []) p
entries-read claims combinations s at (e ∷ es) m l all =
    let n = length es in
    let a = below-read claims s at e.says (at + 2) (all.claim 0 (omega arith)) (entries-says claims combinations s at n e es m l all) in
    let b = below-read combinations s (at + 2) e.by (at + 4) (all.combination 0 (omega arith)) (entries_by claims combinations s at n e es m l all) in
    let rest = entries-read claims combinations s (at + 4) es m l (entries-rest claims combinations s at n e es m l all) in
    rw (a, b, rest)

-- ---- sections that stand in a sheet are read

module _ (ra rb cs : ℕ) (s : List ℕ) where
  kind-read : (k : ℕ) → (eqb k ra || eqb k 0) ≡ true → Word s 0 k 2 → kind_count ra s 0 ≡ got k 2
  unfolding kind_count
  kind-read k e w = counted-read (λ n. eqb n ra || eqb n 0) s 0 k 2 e w

  pub tables-back : (xs ys : List ℕ) → 0 < ra → Word s 0 ra 2 → TableSections ra rb s 2 xs ys
      → read_answer ra rb cs s ≡ answered (tables xs ys)
  unfolding read_answer answer tables_rest
  tables-back xs ys some w t =
      let a = rows-read s 2 ra xs (2 + ra) (omega (arith, t.last)) t.rows_a in
      let b = rows-read s (2 + ra + 2) rb ys (2 + ra + 2 + rb) (omega (arith, t.last)) t.rows_b in
      let test : (eqb ra ra || eqb ra 0) ≡ true = rw (eq-eqb ra ra refl) in
      rw (
        kind-read ra test w,
        ne_eqb ra 0 (λ z. omega arith),
        a,
        exactly-read rb s (2 + ra) (2 + ra + 2) t.count_b,
        b,
        exactly-read 0 s (2 + ra + 2 + rb) (2 + ra + 2 + rb + 2) t.count_walk,
        end_read s (2 + ra + 2 + rb + 2) t.last,
      )

  pub walk-back : (es : List Entry) → Word s 0 0 2 → WalkSections (2 * (ra + rb)) cs s 2 es → read_answer ra rb cs s ≡ answered (walk es)
  unfolding read_answer answer walk_rest
  walk-back es w t =
      let es-read = entries-read (2 * (ra + rb)) cs s 6 es (6 + 4 * length es) (omega (arith, t.last)) t.all in
      let test : (eqb 0 ra || eqb 0 0) ≡ true = or-true (eqb 0 ra) in
      rw (kind-read 0 test w, exactly-read 0 s 2 4 t.count_b, walk-count-read s 4 (length es) 6 t.some t.most t.count_walk, es-read, end_read s (6 + 4 * length es) t.last)

-- ---- a written section stands where it was written

two-stands : (s p q : List ℕ) (v at : ℕ) → s ≡ p ++ (two v ++ q) → length p ≡ at → Word s at v (at + 2)
two-stands s p q v at e l =
    let low : get_or s at 0 ≡ v % 256 = rw (e, ← l) (get_or-append_seam p (v % 256) (v / 256 ∷ q) 0) in
    let high : get_or s (at + 1) 0 ≡ v / 256 = rw (e, ← l) (get_or-append-add p (two v ++ q) 1 0) in
    let long : length s ≡ length p + length (two v ++ q) = ap length e ∙ length-append p (two v ++ q) in
    record { value = omega arith; after = refl; room = omega arith }

rows-stand : (s p bs q : List ℕ) (at : ℕ) → s ≡ p ++ (bs ++ q) → length p ≡ at → ((r : ℕ) → r < length bs → get_or bs r 0 < 2) → Rows s at (length bs) bs (at + length bs)
rows-stand s p bs q at e l small = record {
  long = refl;
  after = refl;
  stand = λ r h. rw (e, ← l) (get_or-append-add p (bs ++ q) r 0 ∙ get_or-append bs q 0 r h);
  bits = small;
}

entries-stand : (claims combinations : ℕ) (s p : List ℕ) (es : List Entry) (at : ℕ) → s ≡ p ++ fours es → length p ≡ at
    → ((i : ℕ) → i < length es → (entry_at es i).says < claims) → ((i : ℕ) → i < length es → (entry_at es i).by < combinations)
    → Entries claims combinations s at (length es) es (at + 4 * length es)
unfolding fours
entries-stand claims combinations s p [] at e l c b = let z : at + 4 * 0 ≡ at = omega arith in rw z (entries_none claims combinations s at)
entries-stand claims combinations s p (e ∷ es) at q l c b =
    let middle : s ≡ (p ++ two e.says) ++ (two e.by ++ fours es) = q ∙ sym (append_assoc p (two e.says) (two e.by ++ fours es)) in
    let shape : s ≡ (p ++ four e) ++ fours es = q ∙ sym (append_assoc p (four e) (fours es)) in
    let place₂ : length (p ++ two e.says) ≡ at + 2 = length-append p (two e.says) ∙ omega arith in
    let place₄ : length (p ++ four e) ≡ at + 4 = length-append p (four e) ∙ omega arith in
    let says = two-stands s p (two e.by ++ fours es) e.says at q l in
    let by = two-stands s (p ++ two e.says) (fours es) e.by (at + 2) middle place₂ in
    let rest = entries-stand claims combinations s (p ++ four e) es (at + 4) shape place₄ (λ i h. c (suc i) (omega arith)) (λ i h. b (suc i) (omega arith)) in
    let first : Four claims combinations s at e (at + 4) =
    record {
      after = refl;
      room = omega (arith, by.room);
      says = says.value;
      by = two_at s (at + 2) (at + 3) (at + 2) (at + 2 + 1) refl (omega arith) ∙ by.value;
      claim = c 0 (omega arith);
      combination = b 0 (omega arith);
    } in
    let end : at + 4 * suc (length es) ≡ at + 4 + 4 * length es = omega arith in
    rw end (entries-more claims combinations s at (length es) e es (at + 4 + 4 * length es) first rest)

-- ---- the written sheets

abbrev spine : List ℕ → List ℕ → List ℕ
spine xs ys = two (length xs) ++ (xs ++ (two (length ys) ++ (ys ++ two 0)))

tables-spine : (xs ys : List ℕ) → tables_sheet xs ys ≡ spine xs ys
tables-spine xs ys = simp append_assoc

pub tables-length : (xs ys : List ℕ) → length (tables_sheet xs ys) ≡ 6 + length xs + length ys
tables-length xs ys = simp length-append (omega arith)

fours-length : (es : List Entry) → length (fours es) ≡ 4 * length es
unfolding fours
fours-length [] = omega arith
fours-length (e ∷ es) = omega (arith, fours-length es)

pub walk-length : (es : List Entry) → length (walk_sheet es) ≡ 6 + 4 * length es
walk-length es = omega (arith, fours-length es)

tables-stand : (xs ys : List ℕ) → ((r : ℕ) → r < length xs → get_or xs r 0 < 2) → ((r : ℕ) → r < length ys → get_or ys r 0 < 2)
    → TableSections (length xs) (length ys) (tables_sheet xs ys) 2 xs ys
tables-stand xs ys bx by =
    let s = tables_sheet xs ys in
    let a = two (length xs) in
    let b = two (length ys) in
    let at-b : length (a ++ xs) ≡ 2 + length xs = length-append a xs in
    let from-b : length (a ++ xs ++ b) ≡ 2 + length xs + 2 = length-append (a ++ xs) b ∙ ap (λ (k : ℕ). k + 2) at-b in
    let at-walk : length (a ++ xs ++ b ++ ys) ≡ 2 + length xs + 2 + length ys = length-append (a ++ xs ++ b) ys ∙ ap (λ (k : ℕ). k + length ys) from-b in
    record {
      rows_a = rows-stand s a xs (b ++ (ys ++ two 0)) 2 (tables-spine xs ys) refl bx;
      count_b = two-stands s (a ++ xs) (ys ++ two 0) (length ys) (2 + length xs) (tables-spine xs ys) at-b;
      rows_b = rows-stand s (a ++ xs ++ b) ys (two 0) (2 + length xs + 2) (simp append_assoc) from-b by;
      count_walk = two-stands s (a ++ xs ++ b ++ ys) [] 0 (2 + length xs + 2 + length ys) (simp append_assoc) at-walk;
      last = omega (arith, tables-length xs ys);
    }

walk-stands : (claims combinations : ℕ) (es : List Entry) → IsWalk claims combinations es → WalkSections claims combinations (walk_sheet es) 2 es
walk-stands claims combinations es w =
    let s = walk_sheet es in
    record {
      count_b = two-stands s (two 0) (two (length es) ++ fours es) 0 2 refl refl;
      some = w.some;
      most = w.most;
      count_walk = two-stands s (two 0 ++ two 0) (fours es) (length es) 4 refl refl;
      all = entries-stand claims combinations s (two 0 ++ two 0 ++ two (length es)) es 6 refl refl w.claim w.combination;
      last = omega (arith, walk-length es);
    }

-- ---- the written sheet is read as what was written

pub tables-read : (ra rb cs : ℕ) (xs ys : List ℕ) → 0 < ra → IsPair ra rb xs ys → read_answer ra rb cs (tables_sheet xs ys) ≡ answered (tables xs ys)
tables-read ra rb cs xs ys some p =
    let la : length xs ≡ ra = p.long_a in
    let lb : length ys ≡ rb = p.long_b in
    let s = tables_sheet xs ys in
    let small_a : (r : ℕ) → r < length xs → get_or xs r 0 < 2 = λ r h. p.bits_a r (omega arith) in
    let small_b : (r : ℕ) → r < length ys → get_or ys r 0 < 2 = λ r h. p.bits_b r (omega arith) in
    let count = two-stands s [] (xs ++ (two (length ys) ++ (ys ++ two 0))) (length xs) 0 (tables-spine xs ys) refl in
    let more : 0 < length xs = omega arith in
    rw (← la, ← lb) (tables-back (length xs) (length ys) cs s xs ys more count (tables-stand xs ys small_a small_b))

pub walk-read : (ra rb cs : ℕ) (es : List Entry) → IsWalk (2 * (ra + rb)) cs es → read_answer ra rb cs (walk_sheet es) ≡ answered (walk es)
walk-read ra rb cs es w =
    let s = walk_sheet es in
    let count = two-stands s [] (two 0 ++ two (length es) ++ fours es) 0 0 refl refl in
    walk-back ra rb cs s es count (walk-stands (2 * (ra + rb)) cs es w)

-- ---- what stands at the places of a sheet of bytes is written there

drop-one : (s : List ℕ) (at : ℕ) → at < length s → drop at s ≡ get_or s at 0 ∷ drop (at + 1) s
drop-one s at l = drop-cons s at 0 l ∙ ap (λ (k : ℕ). get_or s at 0 ∷ drop k s) (sym (add-one at))

word-drop : (s : List ℕ) (at v m : ℕ) → Bytes s → Word s at v m → drop at s ≡ two v ++ drop m s
word-drop s at v m bytes w =
    let l₁ : at < length s = omega (arith, w.room) in
    let l₂ : at + 1 < length s = omega (arith, w.room) in
    let small : get_or s at 0 < 256 = bytes at l₁ in
    let low : get_or s at 0 ≡ v % 256 = omega (arith, w.value) in
    let high : get_or s (at + 1) 0 ≡ v / 256 = omega (arith, w.value) in
    let place : at + 1 + 1 ≡ m = omega (arith, w.after) in
    drop-one s at l₁ ∙ ap (λ (t : List ℕ). get_or s at 0 ∷ t) (drop-one s (at + 1) l₂) ∙ (λ i. low i ∷ high i ∷ drop (place i) s)

rows_drop : (s : List ℕ) (at : ℕ) (bs : List ℕ) (m : ℕ) → m ≤ length s → Rows s at (length bs) bs m → drop at s ≡ bs ++ drop m s
rows_drop s at [] m l all = let p : at ≡ m = omega (arith, all.after) in ap (λ (k : ℕ). drop k s) p
rows_drop s at (b ∷ bs) m l all =
    let first : get_or s at 0 ≡ b = rows-first s at (length bs) b bs m all in
    let rest : drop (at + 1) s ≡ bs ++ drop m s = rows_drop s (at + 1) bs m l (rows-rest s at (length bs) b bs m all) in
    drop-one s at (omega (arith, all.after)) ∙ (λ i. first i ∷ rest i)

entries-drop : (claims combinations : ℕ) (s : List ℕ) (at : ℕ) (es : List Entry) (m : ℕ) → Bytes s → m ≤ length s
    → Entries claims combinations s at (length es) es m → drop at s ≡ fours es ++ drop m s
unfolding fours
entries-drop claims combinations s at [] m bytes l all = let p : at ≡ m = omega (arith, all.after) in ap (λ (k : ℕ). drop k s) p
entries-drop claims combinations s at (e ∷ es) m bytes l all =
    let n = length es in
    let a = word-drop s at e.says (at + 2) bytes (entries-says claims combinations s at n e es m l all) in
    let b = word-drop s (at + 2) e.by (at + 4) bytes (entries_by claims combinations s at n e es m l all) in
    let rest = entries-drop claims combinations s (at + 4) es m bytes l (entries-rest claims combinations s at n e es m l all) in
    a ∙ ap (λ (t : List ℕ). two e.says ++ t) (b ∙ ap (λ (t : List ℕ). two e.by ++ t) rest)

rows_written : (s : List ℕ) (at n : ℕ) (bs : List ℕ) (m : ℕ) → m ≤ length s → Rows s at n bs m → drop at s ≡ bs ++ drop m s
rows_written s at n bs m l all = let e : length bs ≡ n = all.long in rows_drop s at bs m l (rw e all)

end-drop : (s : List ℕ) (at : ℕ) → length s ≡ at → drop at s ≡ []
end-drop s at e = drop_of_length-le s {i = at} (omega arith)

-- ---- a sheet of bytes that is read so is the written one

pub tables-sheet : (ra rb cs : ℕ) (s xs ys : List ℕ) → Bytes s → read_answer ra rb cs s ≡ answered (tables xs ys) → s ≡ tables_sheet xs ys
tables-sheet ra rb cs s xs ys bytes h =
    let f = tables-found ra rb cs s xs ys h in
    let t = f.2 in
    let count-a = word-drop s 0 ra 2 bytes f.1 in
    let rows_a = rows_written s 2 ra xs (2 + ra) (omega (arith, t.last)) t.rows_a in
    let count-b = word-drop s (2 + ra) rb (2 + ra + 2) bytes t.count_b in
    let rows_b = rows_written s (2 + ra + 2) rb ys (2 + ra + 2 + rb) (omega (arith, t.last)) t.rows_b in
    let none = word-drop s (2 + ra + 2 + rb) 0 (2 + ra + 2 + rb + 2) bytes t.count_walk in
    let over = end-drop s (2 + ra + 2 + rb + 2) t.last in
    let la : length xs ≡ ra = t.rows_a.long in
    let lb : length ys ≡ rb = t.rows_b.long in
    count-a
    ∙ ap (λ (l : List ℕ). two ra ++ l)
    (rows_a ∙ ap (λ (l : List ℕ). xs ++ l) (count-b ∙ ap (λ (l : List ℕ). two rb ++ l) (rows_b ∙ ap (λ (l : List ℕ). ys ++ l) (none ∙ ap (λ (l : List ℕ). two 0 ++ l) over))))
    ∙ ap₂ (λ (a b : ℕ). two a ++ (xs ++ (two b ++ (ys ++ two 0)))) (sym la) (sym lb)
    ∙ sym (tables-spine xs ys)

pub walk-sheet : (ra rb cs : ℕ) (s : List ℕ) (es : List Entry) → Bytes s → read_answer ra rb cs s ≡ answered (walk es) → s ≡ walk_sheet es
walk-sheet ra rb cs s es bytes h =
    let f = walk-found ra rb cs s es h in
    let t = f.1 in
    let count-a = word-drop s 0 0 2 bytes f.0 in
    let count-b = word-drop s 2 0 4 bytes t.count_b in
    let count-walk = word-drop s 4 (length es) 6 bytes t.count_walk in
    let all = entries-drop (2 * (ra + rb)) cs s 6 es (6 + 4 * length es) bytes (omega (arith, t.last)) t.all in
    let over = end-drop s (6 + 4 * length es) t.last in
    count-a
    ∙ ap (λ (l : List ℕ). two 0 ++ l)
    (count-b ∙ ap (λ (l : List ℕ). two 0 ++ l) (count-walk ∙ ap (λ (l : List ℕ). two (length es) ++ l) (all ∙ ap (λ (l : List ℕ). fours es ++ l) over ∙ append-nil (fours es))))

-- ---- written sheets are bytes

bytes-none : Bytes []
bytes-none i h = absurd (not-suc-le-zero h)

bytes-more : (x : ℕ) (l : List ℕ) → x < 256 → Bytes l → Bytes (x ∷ l)
bytes-more x l h all zero p = h
bytes-more x l h all (suc i) p = all i (omega arith)

bytes-append : (a b : List ℕ) → Bytes a → Bytes b → Bytes (a ++ b)
bytes-append [] b f g = g
bytes-append (x ∷ a) b f g = bytes-more x (a ++ b) (f 0 (omega arith)) (bytes-append a b (λ i h. f (suc i) (omega arith)) g)

bytes-two : (v : ℕ) → v < 65536 → Bytes (two v)
bytes-two v h = bytes-more (v % 256) (v / 256 ∷ []) (omega arith) (bytes-more (v / 256) [] (omega arith) bytes-none)

bytes-table : (rows : List ℕ) → length rows < 65536 → ((r : ℕ) → r < length rows → get_or rows r 0 < 2) → Bytes (table rows)
bytes-table rows h small = bytes-append (two (length rows)) rows (bytes-two (length rows) h) (λ r l. let b = small r l in omega arith)

bytes-fours : (es : List Entry) → ((i : ℕ) → i < length es → (entry_at es i).says < 65536) → ((i : ℕ) → i < length es → (entry_at es i).by < 65536) → Bytes (fours es)
unfolding fours
bytes-fours [] c b = bytes-none
bytes-fours (e ∷ es) c b =
    let rest = bytes-fours es (λ i h. c (suc i) (omega arith)) (λ i h. b (suc i) (omega arith)) in
    bytes-append (four e) (fours es)
    (bytes-append (two e.says) (two e.by) (bytes-two e.says (c 0 (omega arith))) (bytes-two e.by (b 0 (omega arith))))
    rest

pub tables-bytes : (ra rb : ℕ) (xs ys : List ℕ) → ra < 65536 → rb < 65536 → IsPair ra rb xs ys → Bytes (tables_sheet xs ys)
tables-bytes ra rb xs ys ha hb p =
    let la : length xs ≡ ra = p.long_a in
    let lb : length ys ≡ rb = p.long_b in
    let a = bytes-table xs (omega arith) (λ r h. p.bits_a r (omega arith)) in
    let b = bytes-table ys (omega arith) (λ r h. p.bits_b r (omega arith)) in
    bytes-append (table xs ++ table ys) (two 0) (bytes-append (table xs) (table ys) a b) (bytes-two 0 (omega arith))

pub walk-bytes : (claims combinations : ℕ) (es : List Entry) → claims ≤ 65536 → combinations ≤ 65536 → IsWalk claims combinations es → Bytes (walk_sheet es)
walk-bytes claims combinations es hc hb w =
    let none = bytes-two 0 (omega arith) in
    let count = bytes-two (length es) (omega (arith, w.most)) in
    let all = bytes-fours es (λ i h. let l = w.claim i h in omega arith) (λ i h. let l = w.combination i h in omega arith) in
    bytes-append (two 0 ++ two 0 ++ two (length es)) (fours es) (bytes-append (two 0 ++ two 0) (two (length es)) (bytes-append (two 0) (two 0) none none) count) all
