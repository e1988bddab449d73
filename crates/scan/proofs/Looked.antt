-- The two offers of a look, one after the other: what they ask, and what they come to for a claim of a grid.
-- Assumes nothing.
use Rattle.std.proofs.Common.{◌≡◌, ℕ, ◌+◌, ◌<◌, ◌∙◌, ⊎_elim, arith}
use Rattle.grid.specs.Grid.{claims, fault, bit, Sound}
use Rattle.grid.specs.Grid.{Grid}
use Rattle.scan.specs.Steps.{ShowsRow, aim_of, base}
use Rattle.scan.specs.Reach.{Store, mark, Placed, Reach, Grown, Found, Offered, Looks, Looked}
use Rattle.scan.proofs.Aims.{Aims, aims, aim-faults, aim-long, shown-below}
use Rattle.scan.proofs.Laws.{offers, offered, offered-mark, grown-trans}

-- one marked claim l and one combination a that shows its row
pub record Turn (g : Grid) (s : Store) (tail l a : ℕ) : Type 0 where
  pub sound : Sound g
  pub reach : Reach g s tail
  pub known : mark s l ≡ 1
  pub within : a < g.shape.combinations
  pub shows : ShowsRow g l a

module _ {g : Grid} {s : Store} {tail l a : ℕ} (k : Turn g s tail l a) where
  m : Aims g l a (base (aim_of g l) a) (aim_of g l).own.low (aim_of g l).own.high
  m = aims g l k.sound k.within k.shows

  p : Placed s tail l
  p = k.reach.placed l (shown-below k.sound k.within k.shows) k.known

  low-inside : base (aim_of g l) a < claims g
  low-inside = omega (arith, m.inside)

  module _ {t : Store} {mid : ℕ} (o : Offered s tail (bit (fault g a) (aim_of g l).own.low) (base (aim_of g l) a) l a t mid) where
    first : Grown g s tail t mid
    first = offered k.reach low-inside p m.at_low o

    on : Placed t mid l
    on = record { place = p.place; before = omega (arith, p.before, first.longer); is = first.kept p.place p.before ∙ p.is }

    module _ {u : Store} {last : ℕ} (q : Offered t mid (bit (fault g a) (aim_of g l).own.high) (base (aim_of g l) a + 1) l a u last) where
      second : Grown g t mid u last
      second = offered first.reach m.inside on m.at_high q

      found : Found g u l a
      found n z = ⊎_elim (λ e. rw e.0 (at_base e.1)) (λ e. rw e.0 (at_next e.1)) (m.all n z)
        where
          at_base : bit (fault g a) (aim_of g l).own.low ≡ 1 → mark u (base (aim_of g l) a) ≡ 1
          at_base f = second.still (base (aim_of g l) a) (offered-mark k.reach low-inside p m.at_low o f)

          at_next : bit (fault g a) (aim_of g l).own.high ≡ 1 → mark u (base (aim_of g l) a + 1) ≡ 1
          at_next f = offered-mark first.reach m.inside on m.at_high q f

  pub turn-asks : Looks (aim_of g l) s tail l a
  turn-asks = record {
    in_faults = rw (aim-faults g l) (omega (arith, k.sound.long_faults, k.within));
    in_other = omega (arith, aim-long g l k.sound, k.within);
    few = omega (arith, m.inside, k.sound.sizes.few_a, k.sound.sizes.few_b);
    next = omega (arith, m.inside, k.reach.room.reached);
    high_small = m.small_high;
    to_base = offers k.sound k.reach low-inside m.small_low;
    to_next = λ t mid o. offers k.sound (first (rw (aim-faults g l) at o)).reach m.inside m.small_high;
  }

  module _ {t : Store} {last : ℕ} (d : Looked (aim_of g l) s tail l a t last) where
    pub turn-grown : Grown g s tail t last
    turn-grown = grown-trans (first (rw (aim-faults g l) at d).to_base) (second (rw (aim-faults g l) at d).to_base (rw (aim-faults g l) at d).to_next)

    pub turn-found : Found g t l a
    turn-found = found (rw (aim-faults g l) at d).to_base (rw (aim-faults g l) at d).to_next
