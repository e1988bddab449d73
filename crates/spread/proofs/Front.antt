-- The loop of `spread`: how it begins, one turn, and the end.
-- Assumes nothing.
use Prim.Native.Nat.{ℕ, ◌+◌, ◌<◌, ◌≤◌}
use mathlib.Core.Path.{◌≡◌, sym, ◌∙◌}
use mathlib.Core.List.{List, ◌++◌}
use native.Mathlib.Nat.{not-suc-le-zero}
use native.Mathlib.Decide.{ℕ_discrete}
use native.Mathlib.Omega.{arith}
use borrow.Author.Count.{below_more}
use lib.ListN.{length, get_or, set, drop, replicate, length-set, length-replicate, get_or-replicate, get_or-append}
use lib.Seq.{get_or-set_same, get_or-set_other}
use Rattle.grid.specs.Grid.{claims}
use Rattle.grid.specs.Grid.{Grid}
use Rattle.scan.specs.Steps.{Step}
use Rattle.scan.specs.Reach.{Store, store, mark, entry, marks, Room, Placed, Reach, Asks, Swept}
use Rattle.scan.proofs.Marks.{marks-add, marks-none}
use Rattle.scan.proofs.Laws.{tail-le}
use Rattle.spread.specs.Spread.{Closed, Spread}

pub record Front (g : Grid) (start : ℕ) (t : Store) (tail head : ℕ) : Type 0 where
  pub at : head ≤ tail
  pub some : 0 < tail
  pub first : entry t 0 ≡ start
  pub reach : Reach g t tail
  pub closed : Closed g t head

-- the first n of a cleared array are 0
cleared : (n : ℕ) (l m : List ℕ) → m ≡ replicate n 0 ++ drop n l → (c : ℕ) → c < n → get_or m c 0 ≡ 0
cleared n l m e c h = rw e (get_or-append (replicate n 0) (drop n l) 0 c (rw length-replicate h) ∙ get_or-replicate n c 0 0 h)

only : (i : ℕ) → i < 1 → i ≡ 0
only i h = omega arith

-- one claim is marked and queued
abbrev pub started : ℕ → List ℕ → Store → Store
started start r s = store (set r start 1) (set s.queue 0 start) s.from s.by

module _ {g : Grid} {start : ℕ} {s : Store} {r : List ℕ} (inside : start < claims g) (room : Room g s) (long : length r ≡ length s.reached) (clear : r ≡ replicate (claims g) 0 ++ drop (claims g) s.reached) where
  abbrev s₁ : Store
  s₁ = started start r s

  none : (c : ℕ) → c < claims g → get_or r c 0 ≡ 0
  none = cleared (claims g) s.reached r clear

  first : entry s₁ 0 ≡ start
  first = get_or-set_same s.queue 0 start 0 (omega (arith, room.queue))

  marked : mark s₁ start ≡ 1
  marked = get_or-set_same r start 1 0 (omega (arith, room.reached, long))

  unmarked : (c : ℕ) → c < claims g → (c ≡ start → ⊥) → mark s₁ c ≡ 0
  unmarked c h n = get_or-set_other r start c 1 0 n ∙ none c h

  flags : (c : ℕ) → c < claims g → mark s₁ c ≤ 1
  flags c h = go (ℕ_discrete c start)
    where
      go : Dec (c ≡ start) → mark s₁ c ≤ 1
      go (yes e) = rw e (omega (arith, marked))
      go (no e) = omega (arith, unmarked c h e)

  placed : (c : ℕ) → c < claims g → mark s₁ c ≡ 1 → Placed s₁ 1 c
  placed c h m = go (ℕ_discrete c start)
    where
      go : Dec (c ≡ start) → Placed s₁ 1 c
      go (yes e) = record { place = 0; before = omega arith; is = first ∙ sym e }
      go (no e) = absurd (omega (arith, unmarked c h e))

  room₁ : Room g s₁
  room₁ = record { reached = simp length-set (omega (arith, room.reached, long)); queue = simp length-set room.queue; from = room.from; by = room.by }

  counted : marks s₁.reached (claims g) ≡ 1
  counted = omega (arith, marks-add r start (claims g) inside (omega (arith, room.reached, long)) (none start inside), marks-none r (claims g) none)

  begun : Reach g s₁ 1
  begun = record {
    room = room₁;
    counted = counted;
    flags = flags;
    below = λ i h. rw (only i h) (rw first inside);
    marked = λ i h. rw (only i h) (rw first marked);
    placed = placed;
    apart = λ i j h k e. omega arith;
    parents = λ i h k. absurd (omega arith);
  }

  pub front-start : Front g start (started start r s) 1 0
  front-start = record {
    at = omega arith;
    some = omega arith;
    first = first;
    reach = begun;
    closed = λ i h. absurd (not-suc-le-zero h);
  }

module _ {g : Grid} {start : ℕ} {t : Store} {tail head : ℕ} (w : Front g start t tail head) where
  pub front-ask : head < tail → Asks g t tail (entry t head)
  front-ask h = record { reach = w.reach; inside = w.reach.below head h; known = w.reach.marked head h }

  pub front-turn : {u : Store} {last : ℕ} → head < tail → Swept g t tail (entry t head) u last → Front g start u last (head + 1)
  front-turn {u} h q = record {
    at = omega (arith, q.grown.longer);
    some = omega (arith, q.grown.longer);
    first = q.grown.kept 0 w.some ∙ w.first;
    reach = q.grown.reach;
    closed = below_more (λ (i : ℕ). (m a : ℕ) → Step g (entry u i) m a → mark u m ≡ 1) head
        (λ i l m a e. q.grown.still m (w.closed i l m a (rw (q.grown.kept i (omega arith)) at e)))
        (λ m a e. q.found a m (rw (q.grown.kept head h) at e));
  }

  pub front_below : head < tail → head < claims g
  front_below h = omega (arith, tail-le w.reach)

  pub front-done : tail ≤ head → Spread g start t tail
  front-done h = record {
    some = w.some;
    few = tail-le w.reach;
    first = w.first;
    reach = w.reach;
    closed = λ i l. w.closed i (omega arith);
  }
