-- The way back: the bytes of entries, and the loop of `write_back`.
--     fours-append, fours-length      the bytes of two lists of entries, one after the other, and how many bytes they have: four for each entry
--     Back           the loop's invariant: the entries that are written, and the claim to which the way back has come
--     back_start     it holds at first
--     back-room, back-turn      there is room for one entry more, and it is written
--     back_done      at the start, what is written is what was promised
-- Assumes nothing.
use Prim.Native.Nat.{ℕ, ◌+◌, ◌*◌, ◌<◌, ◌≤◌}
use mathlib.Core.Path.{◌≡◌, refl, ap, sym, subst, ◌∙◌}
use mathlib.Core.List.{List, [], ◌∷◌, ◌++◌, append_assoc, append-nil}
use native.Mathlib.Decide.{ℕ_discrete}
use native.Mathlib.Omega.{arith}
use lib.ListN.{length, get_or, length-append}
use Rattle.answer.specs.Answer.{Entry}
use Rattle.answer.specs.Written.{four, fours}
use Rattle.answer.specs.declared.page.Page.{Page}
use Rattle.answer.specs.Page.{Wrote}
use Rattle.answer.proofs.Pieces.{both, nothing, same_long}
use Rattle.board.specs.Board.{opposite}
use Rattle.spread.specs.Walk.{Chain, Prior, Backs, Written}
use Rattle.spread.specs.Walk.Chain.{here, edge}

pub fours-append : (es fs : List Entry) → fours (es ++ fs) ≡ fours es ++ fours fs
unfolding fours
fours-append [] fs = refl
fours-append (e ∷ es) fs = ap (λ (l : List ℕ). four e ++ l) (fours-append es fs) ∙ sym (append_assoc (four e) (fours es) (fours fs))

fours-one : (e : Entry) → fours (e ∷ []) ≡ four e
unfolding fours
fours-one e = refl

pub fours-length : (es : List Entry) → length (fours es) ≡ 4 * length es
unfolding fours
fours-length [] = refl
fours-length (e ∷ es) = omega (arith, fours-length es)

-- the entries that are written when the way back has come to claim c, which stands in the queue at `place`
pub record Back (queue from by : List ℕ) (r start target : ℕ) (p q : Page) (c : ℕ) : Type 0 where
  pub done : List Entry
  pub rest : (es : List Entry) → Chain from by start c es → Chain from by start target (done ++ es)
  pub place : ℕ
  pub is : get_or queue place 0 ≡ c
  pub few : length done + place < r
  pub end : q.at ≡ p.at + 4 * length done
  pub wrote : Wrote p (fours done) q

module _ {queue from by : List ℕ} {r start target : ℕ} {p : Page} (b : Backs queue from by r start target p.at p.bytes.now) where
  pub back_start : Back queue from by r start target p p target
  unfolding fours
  back_start = record { done = []; rest = λ es e. e; place = b.place; is = b.is; few = omega (arith, b.before); end = omega arith; wrote = nothing }

  module _ {q : Page} {c : ℕ} (w : Back queue from by r start target p q c) where
    pub back_done : c ≡ start → Written from by r start target p q
    back_done e = record {
      entries = w.done;
      chain = rw append-nil at (w.rest [] (rw e here));
      few = omega (arith, w.few);
      wrote = w.wrote;
    }

    module _ (n : c ≡ start → ⊥) where
      -- the claim is not the queue's first
      later : 0 < w.place
      later = go (ℕ_discrete w.place 0)
        where
          go : Dec (w.place ≡ 0) → 0 < w.place
          go (yes e) = absurd (n (sym w.is ∙ ap (λ (i : ℕ). get_or queue i 0) e ∙ b.begins))
          go (no e) = omega arith

      prior : Prior queue from w.place
      prior = b.priors w.place later (omega (arith, w.few))

      e₁ : Entry
      e₁ = record { says = opposite c; by = get_or by c 0 }

      pub back-room : q.at + 4 ≤ length q.bytes.now
      back-room = omega (arith, w.few, w.end, same_long w.wrote, b.room, later)

      pub back-turn : {q₁ : Page} → Wrote q (four (record { says = opposite c; by = get_or by c 0 })) q₁ → Back queue from by r start target p q₁ (get_or from c 0)
      unfolding e₁
      back-turn {q₁} x = record {
        done = w.done ++ (e₁ ∷ []);
        rest = λ es k. rw (append_assoc w.done (e₁ ∷ []) es) (w.rest (e₁ ∷ es) (edge n k));
        place = prior.place;
        is = sym prior.is ∙ ap (λ (i : ℕ). get_or from i 0) w.is;
        few = omega (arith, length-append w.done (e₁ ∷ []), w.few, prior.before);
        end = omega (arith, length-append w.done (e₁ ∷ []), w.end, x.stored.value);
        wrote = subst (λ (l : List ℕ). Wrote p l q₁) (sym (fours-append w.done (e₁ ∷ []) ∙ ap (λ (l : List ℕ). fours w.done ++ l) (fours-one e₁))) (both w.wrote x);
      }
