-- The invariant `Reach` over a store: what `offer` does keeps it.
-- Assumes nothing.
use Rattle.std.proofs.Common.{◌≡◌, ℕ, ◌+◌, ◌<◌, ◌≤◌, ◌⊎◌, List, length, get_or, set, sym, refl, ap, ◌∙◌, subst, inl, inr, le_refl, ne_of_lt, arith, length-set, get_or-set_other, get_or-set_same, below_more}
use native.Mathlib.Decide.{ℕ_discrete}
use Rattle.grid.specs.Grid.{Sound, claims}
use Rattle.grid.specs.Grid.{Grid}
use Rattle.scan.specs.Steps.{Step}
use Rattle.scan.specs.Reach.{Store, mark, entry, marks, Room, Parent, Placed, Reach, Same, Grown, Added, Left, Offered, Offers}
use Rattle.scan.proofs.Marks.{marks-add, marks-le, marks-lt}

pub tail-le : {g : Grid} {s : Store} {tail : ℕ} → Reach g s tail → tail ≤ claims g
tail-le {g} {s} h = omega (arith, h.counted, marks-le s.reached (claims g) h.flags)

pub tail-lt : {g : Grid} {s : Store} {tail c : ℕ} → Reach g s tail → c < claims g → mark s c ≡ 0 → tail < claims g
tail-lt {g} {s} {c = c} h l e = omega (arith, h.counted, marks-lt s.reached c (claims g) h.flags l e)

-- an index below n + 1 is n or below n
pub last_or : {i n : ℕ} → i < n + 1 → (i ≡ n) ⊎ (i < n)
last_or {i} {n} h = go (ℕ_discrete i n)
  where
    go : Dec (i ≡ n) → (i ≡ n) ⊎ (i < n)
    go (yes e) = inl e
    go (no e) = inr (omega arith)

-- a store by list equations, read at an index
got_same : (l m : List ℕ) (i v : ℕ) → m ≡ set l i v → i < length l → get_or m i 0 ≡ v
got_same l m i v e h = rw e (get_or-set_same l i v 0 h)

got_other : (l m : List ℕ) (i v j : ℕ) → m ≡ set l i v → (j ≡ i → ⊥) → get_or m j 0 ≡ get_or l j 0
got_other l m i v j e h = rw e (get_or-set_other l i j v 0 h)

same-long : (l m : List ℕ) (i v : ℕ) → m ≡ set l i v → length m ≡ length l
same-long l m i v e = rw e (length-set l i v)

module _ {g : Grid} {s : Store} {tail child parent a : ℕ} {t : Store} {last : ℕ} (h : Reach g s tail) (inside : child < claims g) (p : Placed s tail parent) (step : Step g parent child a) (d : Added s tail child parent a t last) where
  room-left : tail < claims g
  room-left = tail-lt h inside d.new

  -- what the four arrays hold at each index
  new-entry : entry t tail ≡ child
  new-entry = got_same s.queue t.queue tail child d.queue (omega (arith, room-left, h.room.queue))

  old-entry : (i : ℕ) → i < tail → entry t i ≡ entry s i
  old-entry i l = got_other s.queue t.queue tail child i d.queue (ne_of_lt l)

  new-mark : mark t child ≡ 1
  new-mark = got_same s.reached t.reached child 1 d.reached (omega (arith, h.room.reached))

  old-mark : (c : ℕ) → (c ≡ child → ⊥) → mark t c ≡ mark s c
  old-mark c n = got_other s.reached t.reached child 1 c d.reached n

  new-from : get_or t.from child 0 ≡ parent
  new-from = got_same s.from t.from child parent d.from (omega (arith, h.room.from))

  old-from : (c : ℕ) → (c ≡ child → ⊥) → get_or t.from c 0 ≡ get_or s.from c 0
  old-from c n = got_other s.from t.from child parent c d.from n

  new_by : get_or t.by child 0 ≡ a
  new_by = got_same s.by t.by child a d.by (omega (arith, h.room.by))

  old-by : (c : ℕ) → (c ≡ child → ⊥) → get_or t.by c 0 ≡ get_or s.by c 0
  old-by c n = got_other s.by t.by child a c d.by n

  -- a marked claim is not the new one
  differs : (c : ℕ) → mark s c ≡ 1 → c ≡ child → ⊥
  differs c e q =
      let z : mark s c ≡ 0 = rw q d.new in
      omega arith

  still : (c : ℕ) → mark s c ≡ 1 → mark t c ≡ 1
  still c e = old-mark c (differs c e) ∙ e

  same : Same s t
  same = record {
    reached = same-long s.reached t.reached child 1 d.reached;
    queue = same-long s.queue t.queue tail child d.queue;
    from = same-long s.from t.from child parent d.from;
    by = same-long s.by t.by child a d.by;
  }

  room : Room g t
  room = record {
    reached = omega (arith, same.reached, h.room.reached);
    queue = omega (arith, same.queue, h.room.queue);
    from = omega (arith, same.from, h.room.from);
    by = omega (arith, same.by, h.room.by);
  }

  counted : marks t.reached (claims g) ≡ tail + 1
  counted = rw d.reached (marks-add s.reached child (claims g) inside (omega (arith, h.room.reached)) d.new ∙ ap (λ (n : ℕ). n + 1) h.counted)

  flags : (c : ℕ) → c < claims g → mark t c ≤ 1
  flags c l = go (ℕ_discrete c child)
    where
      go : Dec (c ≡ child) → mark t c ≤ 1
      go (yes e) = rw e (omega (arith, new-mark))
      go (no e) = rw (old-mark c e) (h.flags c l)

  below : (i : ℕ) → i < tail + 1 → entry t i < claims g
  below = below_more (λ (i : ℕ). entry t i < claims g) tail (λ i l. rw (old-entry i l) (h.below i l)) (rw new-entry inside)

  marked : (i : ℕ) → i < tail + 1 → mark t (entry t i) ≡ 1
  marked = below_more (λ (i : ℕ). mark t (entry t i) ≡ 1) tail (λ i l. rw (old-entry i l) (still (entry s i) (h.marked i l))) (rw new-entry new-mark)

  placed : (c : ℕ) → c < claims g → mark t c ≡ 1 → Placed t (tail + 1) c
  placed c l e = go (ℕ_discrete c child)
    where
      old : Placed s tail c → Placed t (tail + 1) c
      old q = record { place = q.place; before = omega (arith, q.before); is = old-entry q.place q.before ∙ q.is }

      go : Dec (c ≡ child) → Placed t (tail + 1) c
      go (yes q) = record { place = tail; before = omega arith; is = new-entry ∙ sym q }
      go (no q) = old (h.placed c l (sym (old-mark c q) ∙ e))

  apart : (i j : ℕ) → i < j → j < tail + 1 → entry t i ≡ entry t j → ⊥
  apart i j l m e = go (last_or m)
    where
      go : (j ≡ tail) ⊎ (j < tail) → ⊥
      go (inl q) =
          let k : i < tail = omega arith in
          differs (entry s i) (h.marked i k) (sym (old-entry i k) ∙ e ∙ rw q new-entry)
      go (inr q) =
          let k : i < tail = omega arith in
          h.apart i j l q (sym (old-entry i k) ∙ e ∙ old-entry j q)

  old-parent : (i : ℕ) → i < tail → Parent g s i → Parent g t i
  old-parent i l q =
      let k : q.place < tail = omega (arith, q.before) in
      let n : entry s i ≡ child → ⊥ = differs (entry s i) (h.marked i l) in
      record {
        place = q.place;
        before = q.before;
        is = rw (old-entry i l, old-entry q.place k) (old-from (entry s i) n ∙ q.is);
        step = rw (old-entry i l, old-entry q.place k) (rw (old-by (entry s i) n) q.step);
      }

  new-parent : Parent g t tail
  new-parent =
      record {
        place = p.place;
        before = p.before;
        is = rw (new-entry, old-entry p.place p.before, p.is) new-from;
        step = rw (new-entry, old-entry p.place p.before, p.is) (rw new_by step);
      }

  parents : (i : ℕ) → 0 < i → i < tail + 1 → Parent g t i
  parents i z l = go (last_or l)
    where
      go : (i ≡ tail) ⊎ (i < tail) → Parent g t i
      go (inl q) = rw q new-parent
      go (inr q) = old-parent i q (h.parents i z q)

  pub added : Grown g s tail t last
  added = rw d.end (record {
    reach = record { room = room; counted = counted; flags = flags; below = below; marked = marked; placed = placed; apart = apart; parents = parents };
    same = same;
    longer = omega arith;
    kept = old-entry;
    still = still;
  })

pub grown-refl : {g : Grid} {s : Store} {tail : ℕ} → Reach g s tail → Grown g s tail s tail
grown-refl {tail = tail} h = record {
  reach = h;
  same = record { reached = refl; queue = refl; from = refl; by = refl };
  longer = le_refl tail;
  kept = λ i l. refl;
  still = λ c e. e;
}

pub same-trans : {s t u : Store} → Same s t → Same t u → Same s u
same-trans p q = record {
  reached = q.reached ∙ p.reached;
  queue = q.queue ∙ p.queue;
  from = q.from ∙ p.from;
  by = q.by ∙ p.by;
}

pub grown-trans : {g : Grid} {s : Store} {tail : ℕ} {t : Store} {mid : ℕ} {u : Store} {last : ℕ} → Grown g s tail t mid → Grown g t mid u last → Grown g s tail u last
grown-trans p q = record {
  reach = q.reach;
  same = same-trans p.same q.same;
  longer = omega (arith, p.longer, q.longer);
  kept = λ i l. q.kept i (omega (arith, p.longer)) ∙ p.kept i l;
  still = λ c e. q.still c (p.still c e);
}

pub left-path : {s : Store} {tail : ℕ} {t : Store} {last : ℕ} → Left s tail t last → s ≡ t
left-path d = λ i. record { reached = sym d.reached i; queue = sym d.queue i; from = sym d.from i; by = sym d.by i }

-- a store that was left as it was
left : {g : Grid} {s : Store} {tail : ℕ} {t : Store} {last : ℕ} → Reach g s tail → Left s tail t last → Grown g s tail t last
left {g} {s} {tail} h d = rw d.end (subst (λ (u : Store). Grown g s tail u tail) (left-path d) (grown-refl h))

-- what `offer` does keeps the invariant, and marks the claim where the bit is set
module _ {g : Grid} {s : Store} {tail f child parent a : ℕ} {t : Store} {last : ℕ} (h : Reach g s tail) (inside : child < claims g) (p : Placed s tail parent) (step : f ≡ 1 → Step g parent child a) where
  pub offered : Offered s tail f child parent a t last → Grown g s tail t last
  offered (inl d) = added h inside p (step d.0) d.1
  offered (inr d) = left h d.1

  pub offered-mark : Offered s tail f child parent a t last → f ≡ 1 → mark t child ≡ 1
  offered-mark (inl d) e = new-mark h inside p (step d.0) d.1
  offered-mark (inr d) e = go (ℕ_discrete (mark s child) 0)
    where
      go : Dec (mark s child ≡ 0) → mark t child ≡ 1
      go (yes z) = absurd (d.0 e z)
      go (no z) = rw d.1.reached (omega (arith, h.flags child inside))

pub offers : {g : Grid} {s : Store} {tail child k : ℕ} → Sound g → Reach g s tail → child < claims g → k < 8 → Offers s tail child k
offers ok h l z = record {
  small = z;
  reached = omega (arith, h.room.reached);
  from = omega (arith, h.room.from);
  by = omega (arith, h.room.by);
  queue = λ e. omega (arith, h.room.queue, tail-lt h l e);
  fits = omega (arith, tail-le h, ok.sizes.few_a, ok.sizes.few_b);
}
