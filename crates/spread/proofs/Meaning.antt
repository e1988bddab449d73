-- What a spread and the way back from it mean on the board that the grid stands for.
--     step-iff            a step of the grid is a step of the board
--     marked-iff          which claims are marked
--     spread-is           the marked claims are a spread
--     unmarked-good       where the start's opposite is not marked, the spread has no claim together with its opposite
--     mark-one            a mark that is not 0 is 1
--     spread-backs        after a spread, the way back may be written from each claim of the queue
--     half-backs          so from the start's opposite, where that is marked
--     half-walk           and what is then written leads from the start to its opposite
-- Assumes nothing.
use Prim.Native.Nat.{ℕ, zero, suc, ◌+◌, ◌*◌, ◌-◌, ◌%◌, ◌<◌, ◌≤◌}
use mathlib.Core.Path.{◌≡◌, refl, sym, ap, ◌∙◌}
use mathlib.Core.Bool.{true, and-eq-true_iff}
use mathlib.Core.List.{List, [], ◌∷◌}
use mathlib.Core.Logic.{◌⊎◌, ◌↔◌, inl, inr}
use native.Mathlib.Decide.{ℕ_discrete}
use native.Mathlib.Omega.{arith}
use borrow.Author.Tests.{ltb-true, eqb-true, lt-ltb, eq-eqb}
use lib.Dec.{eqb, ltb}
use lib.ListN.{length, get_or}
use Rattle.answer.specs.Answer.{Entry}
use Rattle.answer.specs.Written.{entry_at}
use Rattle.board.specs.Board.{Board, Shows, rows, opposite}
use Rattle.board.specs.Walk.{Step as BoardStep, from_a, from_b, start, Goes, Reaches}
use Rattle.board.proofs.Claims.{opposite-opposite}
use Rattle.board.proofs.Steps.{contraposition, step_from, step-to, step-combination}
use Rattle.theory.specs.Solve.{Spread as BoardSpread, Good}
use Rattle.theory.proofs.Reach.{reach-refl, reach_step, reach-trans, reach-cast}
use Rattle.theory.proofs.Spreads.{spread-has, good-or-clash}
use Rattle.grid.specs.Grid.{claims, fault, bit, Sound, grid_board}
use Rattle.grid.specs.Grid.{Grid}
use Rattle.scan.specs.Steps.{Step}
use Rattle.scan.specs.Steps.Step.{a-to-b, b-to-a}
use Rattle.scan.specs.Reach.{Store, mark, entry, marked, Placed, Parent}
use Rattle.scan.proofs.Sizes.{shows}
use Rattle.spread.specs.Spread.{Spread}
use Rattle.answer.specs.declared.page.Page.{Page}
use Rattle.spread.specs.Walk.{Chain, Backs, Written, HalfWalk}
use Rattle.spread.specs.Walk.Chain.{here, edge}

-- ---- steps

step-board : {g : Grid} {l m a : ℕ} → Step g l m a → BoardStep (grid_board g) l m a
step-board {g} {l} {m} {a} (a-to-b w x y f) = from_a w x y (eq-eqb (bit (fault g a) (2 * (l % 2) + (1 - m % 2))) 1 f)
step-board {g} {l} {m} {a} (b-to-a w x y f) = from_b w x y (eq-eqb (bit (fault g a) (2 * (1 - m % 2) + l % 2)) 1 f)

step-grid : {g : Grid} {l m a : ℕ} → BoardStep (grid_board g) l m a → Step g l m a
step-grid {g} {l} {m} {a} (from_a w x y f) = a-to-b w x y (eqb-true (bit (fault g a) (2 * (l % 2) + (1 - m % 2))) 1 f)
step-grid {g} {l} {m} {a} (from_b w x y f) = b-to-a w x y (eqb-true (bit (fault g a) (2 * (1 - m % 2) + l % 2)) 1 f)

pub step-iff : (g : Grid) (l m a : ℕ) → Step g l m a ↔ BoardStep (grid_board g) l m a
step-iff g l m a = (step-board, step-grid)

-- ---- marks

pub marked-iff : (g : Grid) (s : Store) (c : ℕ) → (marked g s c ≡ true) ↔ ((c < claims g) × (mark s c ≡ 1))
unfolding marked
marked-iff g s c = (
  λ e. let t = (and-eq-true_iff (ltb c (claims g)) (eqb (mark s c) 1)).0 e in (ltb-true c (claims g) t.0, eqb-true (mark s c) 1 t.1),
  λ p. (and-eq-true_iff (ltb c (claims g)) (eqb (mark s c) 1)).1 (lt-ltb c (claims g) p.0, eq-eqb (mark s c) 1 p.1),
)

module _ {g : Grid} {c : ℕ} {s : Store} {r : ℕ} (h : Spread g c s r) where
  pub mark-one : (d : ℕ) → d < claims g → (mark s d ≡ 0 → ⊥) → mark s d ≡ 1
  mark-one d l n = omega (arith, h.reach.flags d l)

  -- the claim at each place of the queue is reached
  up_to : (k i : ℕ) → i < k → i < r → Reaches (grid_board g) c (entry s i)
  up_to zero i p l = absurd (omega arith)
  up_to (suc k) i p l = go (ℕ_discrete i 0) (up_to k)
    where
      go : Dec (i ≡ 0) → ((j : ℕ) → j < k → j < r → Reaches (grid_board g) c (entry s j)) → Reaches (grid_board g) c (entry s i)
      go (yes e) rec = reach-cast (grid_board g) refl (sym h.first ∙ ap (entry s) (sym e)) (reach-refl (grid_board g) c)
      go (no n) rec =
          let q = h.reach.parents i (omega arith) l in
          reach-trans (grid_board g) (rec q.place (omega (arith, q.before)) (omega (arith, q.before))) (reach_step (grid_board g) (step-board q.step) (reach-refl (grid_board g) (entry s i)))

module _ {g : Grid} {c : ℕ} {s : Store} {r : ℕ} (ok : Sound g) (inside : c < claims g) (h : Spread g c s r) where
  closed : (l m a : ℕ) → marked g s l ≡ true → BoardStep (grid_board g) l m a → marked g s m ≡ true
  closed l m a e z =
      let k = (marked-iff g s l).0 e in
      let p = h.reach.placed l k.0 k.1 in
      (marked-iff g s m).1 (omega (arith, step-to (grid_board g) (shows ok) z), h.closed p.place p.before m a (rw p.is (step-grid z)))

  reached : (l : ℕ) → marked g s l ≡ true → Reaches (grid_board g) c l
  reached l e =
      let k = (marked-iff g s l).0 e in
      let p = h.reach.placed l k.0 k.1 in
      reach-cast (grid_board g) refl p.is (up_to h (suc p.place) p.place (omega arith) p.before)

  pub spread-is : BoardSpread (grid_board g) c (marked g s)
  spread-is = record {
    begins = (marked-iff g s c).1 (inside, rw h.first at (h.reach.marked 0 h.some));
    closed = closed;
    reached = reached;
  }

  pub unmarked-good : mark s (opposite c) ≡ 0 → Good (marked g s)
  unmarked-good z = go (good-or-clash (grid_board g) (shows ok) spread-is (omega arith))
    where
      go : Good (marked g s) ⊎ Reaches (grid_board g) c (opposite c) → Good (marked g s)
      go (inl good) = good
      go (inr w) =
          let k = (marked-iff g s (opposite c)).0 (spread-has (grid_board g) spread-is w) in
          absurd (omega arith)

-- ---- the way back

pub spread-backs : {g : Grid} {s : Store} {r c target at : ℕ} {out : List ℕ} → Spread g c s r → Placed s r target → at + 4 * r ≤ length out + 4 → Backs s.queue s.from s.by r c target at out
spread-backs h p z = record {
  begins = h.first;
  priors = λ i l k.
      let q = h.reach.parents i l k in
      record { place = q.place; before = q.before; is = q.is };
  in_from = λ i l. omega (arith, h.reach.below i l, h.reach.room.from);
  in_by = λ i l. omega (arith, h.reach.below i l, h.reach.room.by);
  place = p.place;
  before = p.before;
  is = p.is;
  room = z;
}

-- the parent of a claim that is not the start
record Up (g : Grid) (s : Store) (r d : ℕ) : Type 0 where
  placed : Placed s r (get_or s.from d 0)
  step : Step g (get_or s.from d 0) d (get_or s.by d 0)

up : {g : Grid} {s : Store} {r c d : ℕ} → Spread g c s r → (d ≡ c → ⊥) → Placed s r d → Up g s r d
up {g} {s} {r} {c} {d} h n p = at_place (ℕ_discrete p.place 0)
  where
    found : Parent g s p.place → Up g s r d
    found q =
        let parent : get_or s.from d 0 ≡ entry s q.place = ap (λ (i : ℕ). get_or s.from i 0) (sym p.is) ∙ q.is in
        record {
          placed = record { place = q.place; before = omega (arith, q.before, p.before); is = sym parent };
          step = rw parent (rw p.is at q.step);
        }

    at_place : Dec (p.place ≡ 0) → Up g s r d
    at_place (yes e) = absurd (n (sym p.is ∙ ap (λ (i : ℕ). entry s i) e ∙ h.first))
    at_place (no e) = found (h.reach.parents p.place (omega arith) p.before)

-- the entries from d back to the start c lead from the opposite of d to the opposite of c
chain-goes : {g : Grid} {s : Store} {r c d : ℕ} {es : List Entry} → Spread g c s r → Placed s r d → Chain s.from s.by c d es → (start es (opposite c) ≡ opposite d) × Goes (grid_board g) es (opposite c)
chain-goes h p here = (refl, tt)
chain-goes {g} {s} {c = c} {d = d} h p (edge {es = es} n k) =
    let u = up h n p in
    let ih = chain-goes h u.placed k in
    let z : BoardStep (grid_board g) (opposite d) (opposite (get_or s.from d 0)) (get_or s.by d 0) = contraposition (grid_board g) (step-board u.step) in
    (refl, (rw ih.0 z, ih.1))

module _ {B : Board} (ok : Shows B) where
  goes-claim : (es : List Entry) (M : ℕ) → Goes B es M → (i : ℕ) → i < length es → (entry_at es i).says < 2 * rows B
  goes-claim [] M w i h = absurd (omega arith)
  goes-claim (e ∷ es) M w zero h = omega (arith, step_from B ok w.0)
  goes-claim (e ∷ es) M w (suc i) h = goes-claim es M w.1 i (omega arith)

  goes-combination : (es : List Entry) (M : ℕ) → Goes B es M → (i : ℕ) → i < length es → (entry_at es i).by < B.combinations
  goes-combination [] M w i h = absurd (omega arith)
  goes-combination (e ∷ es) M w zero h = step-combination B w.0
  goes-combination (e ∷ es) M w (suc i) h = goes-combination es M w.1 i (omega arith)

-- entries that lead from a claim to its opposite are some
goes_some : (es : List Entry) (c : ℕ) → start es (opposite c) ≡ c → 1 ≤ length es
goes_some [] c e = absurd (omega arith)
goes_some (x ∷ es) c e = omega arith

module _ {g : Grid} {c : ℕ} {s : Store} {r : ℕ} (ok : Sound g) (inside : c < claims g) (h : Spread g c s r) (z : mark s (opposite c) ≡ 1) where
  placed : Placed s r (opposite c)
  placed = h.reach.placed (opposite c) (omega arith) z

  pub half-backs : {at : ℕ} {out : List ℕ} → at + 4 * claims g ≤ length out + 4 → Backs s.queue s.from s.by r c (opposite c) at out
  half-backs l = spread-backs h placed (omega (arith, h.few))

  pub half-walk : {p q : Page} (w : Written s.from s.by r c (opposite c) p q) → HalfWalk g c w.entries
  half-walk w =
      let k = chain-goes h placed w.chain in
      let b : start w.entries (opposite c) ≡ c = k.0 ∙ opposite-opposite c in
      record {
        start_of = b;
        goes = k.1;
        some = goes_some w.entries c b;
        few = omega (arith, w.few, h.few);
        claim = goes-claim (shows ok) w.entries (opposite c) k.1;
        combination = goes-combination (shows ok) w.entries (opposite c) k.1;
      }
