-- Texts that are written one after the other on a page.
--     nothing                    a page goes on after no text where it is
--     same_long                  the page stays as long
--     both                       two texts one after the other are one
--     first_room, next_room      where both fit there is room for the first, and after it for the second
--     from_front                 what a page holds on which a text was written from the front on
--     Three, three               where three texts fit on a page there is room for each
--     Left, left_..              a text is written but for its end: at the start, after a turn, at the end, and room for the next part
-- Assumes nothing.
use mathlib.Core.Path.{◌≡◌, refl, sym, ap, subst, ◌∙◌}
use native.Mathlib.Nat.{add-zero}
use mathlib.Core.List.{List, [], ◌++◌}
use Prim.Native.Nat.{ℕ}
use native.Mathlib.Omega.{arith}
use lib.ListN.{length, drop, length-append}
use lib.Seq.{length-sets}
use Rattle.std.proofs.Common.{append_assoc}
use Rattle.std.proofs.lemmas.List.{append-nil}
use Rattle.steps.proofs.Runs.{at_front, joined}
use Rattle.answer.specs.declared.page.Page.{Page}
use Rattle.answer.specs.Page.{Room, Wrote}

pub nothing : {p : Page} → Wrote p [] p
nothing {p} = record { same = refl; stored = record { value = sym (add-zero p.at); out_after = refl } }

pub first_room : (p : Page) (t u : List ℕ) → Room p (t ++ u) → Room p t
first_room p t u fits = omega (arith, length-append t u)

module _ {p q : Page} {t : List ℕ} (x : Wrote p t q) where
  pub same_long : length q.bytes.now ≡ length p.bytes.now
  same_long = ap length x.stored.out_after ∙ length-sets p.bytes.now p.at t

  pub both : {u : List ℕ} {r : Page} → Wrote q u r → Wrote p (t ++ u) r
  both {u} {r} y = record {
    same = y.same ∙ x.same;
    stored = record {
      value = omega (arith, x.stored.value, y.stored.value, length-append t u);
      out_after = joined p.bytes.now q.bytes.now r.bytes.now p.at q.at t u x.stored.out_after x.stored.value y.stored.out_after;
    };
  }

  pub next_room : (u : List ℕ) → Room p (t ++ u) → Room q u
  next_room u fits = omega (arith, x.stored.value, same_long, length-append t u)

pub from_front : {p q : Page} {t : List ℕ} → p.at ≡ 0 → Room p t → Wrote p t q → q.bytes.now ≡ t ++ drop (length t) p.bytes.now
from_front {p} {q} {t} e fits x = x.stored.out_after ∙ rw e (at_front p.bytes.now t (omega arith))

-- there is room for each of three texts, once those before it are written
pub record Three (p : Page) (t u v : List ℕ) : Type 0 where
  pub first : Room p t
  pub second : {q : Page} → Wrote p t q → Room q u
  pub third : {q r : Page} → Wrote p t q → Wrote q u r → Room r v

pub three : {p : Page} (t u v : List ℕ) → Room p (t ++ u ++ v) → Three p t u v
three {p} t u v fits =
    let two = first_room p (t ++ u) v fits in
    record {
      first = first_room p t u two;
      second = λ x. next_room x u two;
      third = λ x y. next_room (both x y) v fits;
    }

-- the text t is written on the page p, but for its end u, which follows on the page q
pub record Left (p : Page) (t : List ℕ) (q : Page) (u : List ℕ) : Type 0 where
  pub so_far : List ℕ
  pub is : t ≡ so_far ++ u
  pub wrote : Wrote p so_far q

pub left_start : {p : Page} (t : List ℕ) → Left p t p t
left_start t = record { so_far = []; is = refl; wrote = nothing }

module _ {p : Page} {t : List ℕ} {q : Page} where
  pub left_done : {u : List ℕ} → Left p t q u → u ≡ [] → Wrote p t q
  left_done x none = subst (λ (s : List ℕ). Wrote p s q) (sym (x.is ∙ ap (λ (s : List ℕ). x.so_far ++ s) none ∙ append-nil x.so_far)) x.wrote

  module _ {u : List ℕ} (x : Left p t q u) (v w : List ℕ) (next : u ≡ v ++ w) where
    pub left_room : Room p t → Room q v
    left_room fits =
        let all : Room p (x.so_far ++ (v ++ w)) = subst (Room p) (x.is ∙ ap (λ (s : List ℕ). x.so_far ++ s) next) fits in
        first_room q v w (next_room x.wrote (v ++ w) all)

    pub left_turn : {r : Page} → Wrote q v r → Left p t r w
    left_turn y = record {
      so_far = x.so_far ++ v;
      is = x.is ∙ ap (λ (s : List ℕ). x.so_far ++ s) next ∙ sym (append_assoc x.so_far v w);
      wrote = both x.wrote y;
    }
