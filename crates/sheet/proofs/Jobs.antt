-- The whole sheet: the head was refused or found, then the rules and excuses, then the end. Assumes nothing.
use mathlib.Core.Path.{◌≡◌, refl, sym, ap, ◌∙◌}
use mathlib.Core.List.{List, []}
use mathlib.Core.Logic.{⊎_elim}
use Prim.Native.Nat.{ℕ, zero, suc}
use native.Mathlib.Omega.{arith}
use lib.ListN.{length}
use Rattle.steps.specs.declared.Refusal.{Refusal}
use Rattle.sheet.specs.declared.Form.{Form}
use Rattle.sheet.specs.declared.Form.TheVariants.{One, Two}
use Rattle.sheet.specs.declared.JobHead.{JobHead}
use Rattle.std.specs.Prelude.{Result, Ok, Err}
use Rattle.steps.specs.Step.{Step, got, refused, next}
use Rattle.sheet.specs.Job.{Job, Head, Verdict, accepted, rejected}
use Rattle.steps.specs.Outcome.{success, refused_job}
use Rattle.sheet.specs.JobSheet.{outcome_of, read_outcome}
use Rattle.steps.specs.Bytes.{word_count, end}
use Rattle.sheet.specs.JobSheet.{counted_mask, rules, excuses, head, job, read_job, terms_of, wire_terms_of, excuse_limit}
use Rattle.sheet.specs.JobFound.{job_head, as_job, rules_pass, excuses_pass, terms_pass, kept_terms, kept_masks}
use Rattle.steps.proofs.Entries.{next-inv, next-not, got-inj, place_same}
use Rattle.steps.proofs.Steps.{through_not}
use Rattle.sheet.proofs.Heads.{head-facts}

-- a head in numbers, with the number of excuses
abbrev pub head_of : Head → (excuses : ℕ) → JobHead
head_of h k = record { wires = h.wires; sees_a = h.sees_a; sees_b = h.sees_b; rules = h.count; excuses = k; pins_at = 1 }

-- as many rules as were asked for
pub rules-length : (n terms : ℕ) (s : List ℕ) (at : ℕ) (rs : List ℕ) (m : ℕ) → rules n terms s at ≡ got rs m → length rs ≡ n
unfolding rules
rules-length zero terms s at rs m h = ap length (sym (got-inj [] rs at m h))
rules-length (suc n) terms s at rs m h =
    let i = next-inv (counted_mask terms terms s at) _ rs m h in
    let j = next-inv (rules n terms s i.1) _ rs m i.3 in
    ap length (sym (got-inj _ rs _ m j.3)) ∙ ap suc (rules-length n terms s i.1 j.0 j.1 j.2)

-- what is told of rules, and of excuses, is how many there are
rules-told : (n terms : ℕ) (s : List ℕ) (at : ℕ) → rules_pass n terms s at ≡ next (rules n terms s at) (λ rs m. got (length rs) m)
unfolding rules_pass
rules-told n terms s at = go (rules n terms s at) refl
  where
    go : (t : Step (List ℕ)) → rules n terms s at ≡ t → next t (λ rs m. got n m) ≡ next t (λ rs m. got (length rs) m)
    go (got rs m) e = ap (λ (k : ℕ). got k m) (sym (rules-length n terms s at rs m e))
    go (refused w) e = refl

excuses-told : (f : Form) (n : ℕ) (s : List ℕ) (at : ℕ) → excuses_pass f n s at ≡ next (excuses f n s at) (λ es m. got (length es) m)
unfolding excuses_pass excuses
excuses-told One n s at = refl
excuses-told Two n s at = go (word_count excuse_limit s at)
  where
    go : (t : Step ℕ) → next t (λ k m. rules_pass k (wire_terms_of n) s m) ≡ next (next t (λ k m. rules k (wire_terms_of n) s m)) (λ es m. got (length es) m)
    go (got k m) = rules-told k (wire_terms_of n) s m
    go (refused w) = refl

module _ (f : Form) (s : List ℕ) where
  pub no-head : (w : Refusal) → head s 0 ≡ refused w → read_job f s ≡ rejected w
  unfolding read_job job
  no-head w h = rw h

  pub none_kept : (w : Refusal) → head s 0 ≡ refused w → kept_masks f s ≡ []
  unfolding kept_masks
  none_kept w h = rw h

  module _ (H : Head) (at : ℕ) (e : head s 0 ≡ got H at) where
    pub some-kept : kept_terms f H.wires H.count s at ≡ kept_masks f s
    unfolding kept_masks
    some-kept = rw e

    pub no-terms : (w : Refusal) → terms_pass f H.wires H.count s at ≡ refused w → read_job f s ≡ rejected w
    unfolding read_job job terms_pass
    no-terms w t =
        ⊎_elim (λ r. rw (e, through_not (rules H.count (terms_of H.wires) s at) length w (sym (rules-told H.count (terms_of H.wires) s at) ∙ r)))
        (λ r.
        let rs = next-inv (rules H.count (terms_of H.wires) s at) _ r.0 r.1 (sym (rules-told H.count (terms_of H.wires) s at) ∙ r.2) in
        let place : rs.1 ≡ r.1 = place_same rs.3 in
        let es = through_not (excuses f H.wires s r.1) length w (sym (excuses-told f H.wires s r.1) ∙ r.3) in
        rw (e, rs.2, place, es))
        (next-not (rules_pass H.count (terms_of H.wires) s at) (λ z m. excuses_pass f H.wires s m) w t)

    module _ (v q : ℕ) (t : terms_pass f H.wires H.count s at ≡ got v q) where
      found-terms : (rs es : List ℕ) × (m : ℕ) × (rules H.count (terms_of H.wires) s at ≡ got rs m) × (excuses f H.wires s m ≡ got es q) × (length es ≡ v)
      unfolding terms_pass
      found-terms =
          let r = next-inv (rules_pass H.count (terms_of H.wires) s at) _ v q t in
          let rs = next-inv (rules H.count (terms_of H.wires) s at) _ r.0 r.1 (sym (rules-told H.count (terms_of H.wires) s at) ∙ r.2) in
          let es = next-inv (excuses f H.wires s r.1) _ v q (sym (excuses-told f H.wires s r.1) ∙ r.3) in
          let place : rs.1 ≡ r.1 = place_same rs.3 in
          let last : es.1 ≡ q = place_same es.3 in
          (rs.0, es.0, r.1, rs.2 ∙ ap (got rs.0) place, es.2 ∙ ap (got es.0) last, got-inj (length es.0) v es.1 q es.3)

      pub no_end : (w : Refusal) → end s q ≡ refused w → read_job f s ≡ rejected w
      unfolding read_job job
      no_end w z = rw (e, found-terms.3, found-terms.4, z)

      pub all : (u m : ℕ) → end s q ≡ got u m → Ok (head_of H v) ≡ as_job (read_job f s)
      unfolding read_job job
      all u m z =
          let wires = (head-facts s H at e).2 in
          let count = rules-length H.count (terms_of H.wires) s at found-terms.0 found-terms.2 found-terms.3 in
          let more = found-terms.5 in
          rw (e, found-terms.3, found-terms.4, z)
          (ap Ok (λ i. record { wires = sym wires i; sees_a = H.sees_a; sees_b = H.sees_b; rules = sym count i; excuses = sym more i; pins_at = 1 }))

-- what a sheet that was taken apart comes to
apart-jobs : (x : Result JobHead Refusal) (h : JobHead) (w : Refusal) → x ≡ Ok h → x ≡ Err w → ⊥
apart-jobs x h w p q = let z : ◌≡◌ {A = ℕ} 0 1 = cc in omega arith

verdict-accepted : (v : Verdict) (x : Result JobHead Refusal) (h : JobHead) → x ≡ as_job v → x ≡ Ok h → success 0 0 ≡ outcome_of v
verdict-accepted (accepted j) x h e p = refl
verdict-accepted (rejected w) x h e p = absurd (apart-jobs x h w p e)

verdict-taken : (v : Verdict) (x : Result JobHead Refusal) (h : JobHead) → x ≡ as_job v → x ≡ Ok h → (j : Job) × (v ≡ accepted j) × (h ≡ job_head j)
verdict-taken (accepted j) x h e p = (j, refl, cc)
verdict-taken (rejected w) x h e p = absurd (apart-jobs x h w p e)

verdict-refused : (v : Verdict) (x : Result JobHead Refusal) (w : Refusal) → x ≡ as_job v → x ≡ Err w → v ≡ rejected w
verdict-refused (accepted j) x w e p = absurd (apart-jobs x _ w e p)
verdict-refused (rejected w') x w e p = cc

module _ (f : Form) (s : List ℕ) (x : Result JobHead Refusal) where
  pub job-refused : (w : Refusal) → x ≡ as_job (read_job f s) → x ≡ Err w → read_job f s ≡ rejected w
  job-refused w e p = verdict-refused (read_job f s) x w e p

  pub job-accepted : (h : JobHead) → x ≡ as_job (read_job f s) → x ≡ Ok h → (j : Job) × (read_job f s ≡ accepted j) × (h ≡ job_head j)
  job-accepted h e p = verdict-taken (read_job f s) x h e p

  pub read-accepted : (h : JobHead) → x ≡ as_job (read_job f s) → x ≡ Ok h → success 0 0 ≡ read_outcome f s
  unfolding read_outcome
  read-accepted h e p = verdict-accepted (read_job f s) x h e p

  pub read-refused : (w : Refusal) → x ≡ as_job (read_job f s) → x ≡ Err w → refused_job 1 w ≡ read_outcome f s
  unfolding read_outcome
  read-refused w e p = sym (ap outcome_of (job-refused w e p))
