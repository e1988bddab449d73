-- What the spread keeps in the lent arrays, and what each function of the scan promises of it.
--     Store      the four arrays: the marks, the queue, and each claim's parent claim and combination
--     marks      the sum of the first n marks
--     Reach      the invariant: the first `tail` queue entries are exactly the marked claims, each once, and each but the first has a parent that stands before it
--     Grown      from one store to a later one: more claims, none lost, the queue's front as it was
--     marked     which claims a store has marked
--     Looked     one look: the two claims of the other cell's row are offered, each by its fault bit
--     Visited    the scan of one claim: each combination that shows its row is looked at once, in rising order, and no other
-- Assumes nothing: these are definitions.
use Rattle.std.specs.Prelude.{◌≡◌, ℕ, zero, suc, ◌+◌, ◌<◌, ◌≤◌, Bool, ◌&&◌, ◌⊎◌, List, length, ◌==◌, ◌≢◌, nat_lt, slice_index, slice_index_or, slice_set}
use Rattle.grid.specs.Grid.{claims, bit}
use Rattle.grid.specs.Grid.{Grid}
use Rattle.scan.specs.Steps.{ShowsRow, Step, Aim, aim_of, base}

pub record Store : Type 0 where
  pub reached : List ℕ
  pub queue : List ℕ
  pub from : List ℕ
  pub by : List ℕ

abbrev pub store : List ℕ → List ℕ → List ℕ → List ℕ → Store
store r q f y = record { reached = r; queue = q; from = f; by = y }

abbrev pub mark : Store → ℕ → ℕ
mark s c = slice_index s.reached c

abbrev pub entry : Store → ℕ → ℕ
entry s i = slice_index s.queue i

unfoldable pub marked : Grid → Store → ℕ → Bool
marked g s c = nat_lt c (claims g) && mark s c == 1

unfoldable pub marks : List ℕ → ℕ → ℕ
marks r zero = 0
marks r (suc k) = marks r k + slice_index r k

-- each array has a place for each claim
pub record Room (g : Grid) (s : Store) : Type 0 where
  pub reached : claims g ≤ length s.reached
  pub queue : claims g ≤ length s.queue
  pub from : claims g ≤ length s.from
  pub by : claims g ≤ length s.by

-- the parent of the claim at place i of the queue stands at an earlier place, and leads to it by a step
pub record Parent (g : Grid) (s : Store) (i : ℕ) : Type 0 where
  pub place : ℕ
  pub before : place < i
  pub is : slice_index_or s.from (entry s i) 0 ≡ entry s place
  pub step : Step g (entry s place) (entry s i) (slice_index s.by (entry s i))

-- the place of a claim in the queue
pub record Placed (s : Store) (tail c : ℕ) : Type 0 where
  pub place : ℕ
  pub before : place < tail
  pub is : entry s place ≡ c

pub record Reach (g : Grid) (s : Store) (tail : ℕ) : Type 0 where
  pub room : Room g s
  pub counted : marks s.reached (claims g) ≡ tail
  pub flags : (c : ℕ) → c < claims g → mark s c ≤ 1
  pub below : (i : ℕ) → i < tail → entry s i < claims g
  pub marked : (i : ℕ) → i < tail → mark s (entry s i) ≡ 1
  pub placed : (c : ℕ) → c < claims g → mark s c ≡ 1 → Placed s tail c
  pub apart : (i j : ℕ) → i < j → j < tail → entry s i ≢ entry s j
  pub parents : (i : ℕ) → 0 < i → i < tail → Parent g s i

-- the arrays keep their lengths
pub record Same (s t : Store) : Type 0 where
  pub reached : length t.reached ≡ length s.reached
  pub queue : length t.queue ≡ length s.queue
  pub from : length t.from ≡ length s.from
  pub by : length t.by ≡ length s.by

pub record Grown (g : Grid) (s : Store) (tail : ℕ) (t : Store) (last : ℕ) : Type 0 where
  pub reach : Reach g t last
  pub same : Same s t
  pub longer : tail ≤ last
  pub kept : (i : ℕ) → i < tail → entry t i ≡ entry s i
  pub still : (c : ℕ) → mark s c ≡ 1 → mark t c ≡ 1

-- every claim to which a step by a leads from l is marked
abbrev pub Found : Grid → Store → ℕ → ℕ → Type 0
Found g s l a = (m : ℕ) → Step g l m a → mark s m ≡ 1

-- what `offer` does: nothing, where the bit is not set or the claim is marked; else the claim is marked, queued and given its parent
pub record Added (s : Store) (tail child parent a : ℕ) (t : Store) (last : ℕ) : Type 0 where
  pub new : mark s child ≡ 0
  pub reached : t.reached ≡ slice_set s.reached child 1
  pub queue : t.queue ≡ slice_set s.queue tail child
  pub from : t.from ≡ slice_set s.from child parent
  pub by : t.by ≡ slice_set s.by child a
  pub end : last ≡ tail + 1

pub record Left (s : Store) (tail : ℕ) (t : Store) (last : ℕ) : Type 0 where
  pub reached : t.reached ≡ s.reached
  pub queue : t.queue ≡ s.queue
  pub from : t.from ≡ s.from
  pub by : t.by ≡ s.by
  pub end : last ≡ tail

abbrev pub Offered : Store → ℕ → ℕ → ℕ → ℕ → ℕ → Store → ℕ → Type 0
Offered s tail b child parent a t last =
    ((b ≡ 1) × Added s tail child parent a t last) ⊎ ((b ≡ 1 → mark s child ≢ 0) × Left s tail t last)

-- what `offer` asks: the claim has its places, and so has the queue where the claim is not marked
pub record Offers (s : Store) (tail child k : ℕ) : Type 0 where
  pub small : k < 8
  pub reached : child < length s.reached
  pub from : child < length s.from
  pub by : child < length s.by
  pub queue : mark s child ≡ 0 → tail < length s.queue
  pub fits : tail ≤ 1024

-- the claim is not to be offered by the bit b, or has its mark
abbrev pub Known : ℕ → ℕ → Type 0
Known b mark = b ≡ 1 → mark ≢ 0

-- what `look` asks and promises: the two claims of the row that combination a shows to the other cell are offered, one after the other
pub record Looks (v : Aim) (s : Store) (tail l a : ℕ) : Type 0 where
  pub in_faults : a < length v.faults
  pub in_other : a < length v.other
  pub few : base v a < 1024
  pub next : base v a + 1 < length s.reached
  pub high_small : v.own.high < 8
  pub to_base : Offers s tail (base v a) v.own.low
  pub to_next : (t : Store) (mid : ℕ) → Offered s tail (bit (slice_index v.faults a) v.own.low) (base v a) l a t mid → Offers t mid (base v a + 1) v.own.high

pub record Looked (v : Aim) (s : Store) (tail l a : ℕ) (t : Store) (last : ℕ) : Type 0 where
  pub middle : Store
  pub between : ℕ
  pub to_base : Offered s tail (bit (slice_index v.faults a) v.own.low) (base v a) l a middle between
  pub to_next : Offered middle between (bit (slice_index v.faults a) v.own.high) (base v a + 1) l a t last

-- The first n combinations in rising order: each that shows the row of claim l was looked at, and each other passed over. So the store that is left does
-- not hang on how the next combination is found.
pub data Visited (g : Grid) (l : ℕ) (s : Store) (tail : ℕ) : ℕ → Store → ℕ → Type 0 where
  begin : Visited g l s tail 0 s tail
  look : {n : ℕ} {t : Store} {mid : ℕ} {u : Store} {last : ℕ} → Visited g l s tail n t mid → ShowsRow g l n → Looked (aim_of g l) t mid l n u last → Visited g l s tail (n + 1) u last
  pass : {n : ℕ} {t : Store} {last : ℕ} → Visited g l s tail n t last → (ShowsRow g l n → ⊥) → Visited g l s tail (n + 1) t last

-- what `looks` asks and promises: one marked claim l and every combination
pub record Asks (g : Grid) (s : Store) (tail l : ℕ) : Type 0 where
  pub reach : Reach g s tail
  pub inside : l < claims g
  pub known : mark s l ≡ 1

pub record Swept (g : Grid) (s : Store) (tail l : ℕ) (t : Store) (last : ℕ) : Type 0 where
  pub visited : Visited g l s tail g.shape.combinations t last
  pub grown : Grown g s tail t last
  pub found : (a : ℕ) → Found g t l a
