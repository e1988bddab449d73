-- In each form one sheet has exactly the longest length and is accepted: 12 wires, 8 seen by each cell, 256 rules of all 28 terms, and in form two 64
-- excuses of all 24.
--     longest_sheet       the sheet
--     longest-length     its length
--     longest-accepted   it is accepted
--     low_count          a count of excuses is read where it stands
-- Assumes nothing.
use mathlib.Core.Path.{◌≡◌, refl, sym, ap, ap₂, ◌∙◌}
use mathlib.Core.List.{List, [], ◌∷◌, ◌++◌, append-nil, append_assoc}
use Prim.Native.Nat.{ℕ, zero, suc, ◌+◌, ◌*◌, ◌≤◌, ◌<◌}
use native.Mathlib.Nat.{add-zero, not-suc-le-zero}
use native.Mathlib.Omega.{arith}
use borrow.Author.Tests.{lt-ltb, le-leb}
use lib.ListN.{length, get_or, length-append, get_or-append}
use lib.Seq.{get_or-append-add}
use Rattle.steps.specs.Step.{got}
use Rattle.sheet.specs.declared.Form.{Form}
use Rattle.sheet.specs.declared.Form.TheVariants.{One, Two}
use Rattle.sheet.specs.Job.{Job, Head, accepted}
use Rattle.steps.specs.Bytes.{byte, word, within, count, word_count, rising, entry, entries}
use Rattle.sheet.specs.JobSheet.{mask_of, mask, counted_mask, rules, excuses, head, job, read_job, excuse_limit, longest}
use Rattle.steps.proofs.Near.{Alike, byte-there, end_read}
use Rattle.sheet.proofs.Length.{near-head}

-- the numbers from i on, n of them
up_from : ℕ → ℕ → List ℕ
up_from zero i = []
up_from (suc n) i = i ∷ up_from n (i + 1)

-- a count and as many entries
full : ℕ → List ℕ
full n = n ∷ up_from n 0

times : ℕ → List ℕ → List ℕ
times zero l = []
times (suc n) l = l ++ times n l

front : List ℕ
front = full 12 ++ full 8 ++ full 8 ++ (0 ∷ 1 ∷ [])

fifth : Form → List ℕ
fifth One = []
fifth Two = 64 ∷ 0 ∷ times 64 (full 24)

pub longest_sheet : Form → List ℕ
longest_sheet f = front ++ (times 256 (full 28) ++ fifth f)

-- ---- a full set of terms is found where it stands

entry-there : (limit least : ℕ) (s : List ℕ) (at : ℕ) → at < length s → get_or s at 0 ≡ least → least < limit → entry limit least s at ≡ got least (at + 1)
unfolding entry rising
entry-there limit least s at l e h = rw (byte-there s at l, e, lt-ltb least limit h, le-leb least least (omega arith))

entries-full : (n limit least : ℕ) (s : List ℕ) (at : ℕ) → at + n ≤ length s → least + n ≤ limit → ((i : ℕ) → i < n → get_or s (at + i) 0 ≡ least + i)
    → entries n limit least s at ≡ got (up_from n least) (at + n)
unfolding entries up_from
entries-full zero limit least s at l m h = ap (got []) (sym (add-zero at))
entries-full (suc n) limit least s at l m h =
    let e : get_or s at 0 ≡ least = ap (λ (k : ℕ). get_or s k 0) (sym (add-zero at)) ∙ h 0 (omega arith) ∙ add-zero least in
    let first = entry-there limit least s at (omega arith) e (omega arith) in
    let rest = entries-full n limit (least + 1) s (at + 1) (omega arith) (omega arith) (λ i g. entries_next s at least i (h (i + 1) (omega arith))) in
    let place : at + 1 + n ≡ at + suc n = omega arith in
    rw (first, rest) (ap (got (least ∷ up_from n (least + 1))) place)
  where
    entries_next : (s : List ℕ) (at least i : ℕ) → get_or s (at + (i + 1)) 0 ≡ least + (i + 1) → get_or s (at + 1 + i) 0 ≡ least + 1 + i
    entries_next s at least i h =
        let p : at + 1 + i ≡ at + (i + 1) = omega arith in
        ap (λ (k : ℕ). get_or s k 0) p ∙ h ∙ omega arith

up_at : (n i least : ℕ) → i < n → get_or (up_from n least) i 0 ≡ least + i
unfolding up_from
up_at zero i least h = absurd (not-suc-le-zero h)
up_at (suc n) zero least h = sym (add-zero least)
up_at (suc n) (suc i) least h = up_at n i (least + 1) (omega arith) ∙ omega arith

-- the bytes of s from `at` on begin with the list l
Stands : List ℕ → ℕ → List ℕ → Type 0
Stands s at l = (i : ℕ) → i < length l → get_or s (at + i) 0 ≡ get_or l i 0

up-length : (n i : ℕ) → length (up_from n i) ≡ n
unfolding up_from
up-length zero i = refl
up-length (suc n) i = ap suc (up-length n (i + 1))

full-length : (n : ℕ) → length (full n) ≡ suc n
unfolding full
full-length n = ap suc (up-length n 0)

counted-full : (n : ℕ) (s : List ℕ) (at : ℕ) → at + suc n ≤ length s → Stands s at (full n) → counted_mask n n s at ≡ got (mask_of (up_from n 0)) (at + suc n)
unfolding counted_mask mask count within Stands full
counted-full n s at l h =
    let e : get_or s at 0 ≡ n = ap (λ (k : ℕ). get_or s k 0) (sym (add-zero at)) ∙ h 0 (omega arith) in
    let there : byte s at ≡ got (get_or s at 0) (at + 1) = byte-there s at (omega arith) in
    let place : at + 1 + n ≡ at + suc n = omega arith in
    let all : entries n n 0 s (at + 1) ≡ got (up_from n 0) (at + 1 + n) = entries-full n n 0 s (at + 1) (omega arith) (omega arith) (λ i g. later i g) in
    rw (there, e, le-leb n n (omega arith), all) (ap (got (mask_of (up_from n 0))) place)
  where
    later : (i : ℕ) → i < n → get_or s (at + 1 + i) 0 ≡ 0 + i
    later i g =
        let p : at + 1 + i ≡ at + suc i = omega arith in
        ap (λ (k : ℕ). get_or s k 0) p ∙ h (suc i) (omega (arith, full-length n)) ∙ up_at n i 0 g

after_front : (p l t : List ℕ) → Stands (p ++ (l ++ t)) (length p) l
unfolding Stands
after_front p l t i h = get_or-append-add p (l ++ t) i 0 ∙ get_or-append l t 0 i h

rules-full : (k n : ℕ) (p t : List ℕ) → (rs : List ℕ) × (rules k n (p ++ (times k (full n) ++ t)) (length p) ≡ got rs (length (p ++ times k (full n))))
unfolding rules times
rules-full zero n p t = ([], ap (λ (l : List ℕ). got [] (length l)) (sym (append-nil p)))
rules-full (suc k) n p t =
    let ih = rules-full k n (p ++ full n) t in
    let more : List ℕ = times k (full n) ++ t in
    let place : length (p ++ full n) ≡ length p + suc n = length-append p (full n) ∙ ap (λ (m : ℕ). length p + m) (full-length n) in
    let room : length (p ++ (full n ++ more)) ≡ length p + (suc n + length more) =
    length-append p (full n ++ more) ∙ ap (λ (m : ℕ). length p + m) (length-append (full n) more ∙ ap (λ (m : ℕ). m + length more) (full-length n)) in
    let first = counted-full n (p ++ (full n ++ more)) (length p) (omega arith) (after_front p (full n) more) in
    let rest : rules k n (p ++ (full n ++ more)) (length p + suc n) ≡ got ih.0 (length (p ++ (full n ++ times k (full n)))) =
    ap₂ (λ (s : List ℕ) (at : ℕ). rules k n s at) (sym (append_assoc p (full n) more)) (sym place) ∙ ih.1
    ∙ ap (λ (s : List ℕ). got ih.0 (length s)) (append_assoc p (full n) (times k (full n))) in
    (mask_of (up_from n 0) ∷ ih.0, rw (append_assoc (full n) (times k (full n)) t, first, rest))

-- ---- the whole sheet

times-length : (k : ℕ) (l : List ℕ) → length (times k l) ≡ k * length l
unfolding times
times-length zero l = omega arith
times-length (suc k) l = length-append l (times k l) ∙ omega (arith, times-length k l)

fifth-length : (f : Form) → 7457 + length (fifth f) ≡ longest f
unfolding fifth
fifth-length One = refl
fifth-length Two = omega (arith, times-length 64 (full 24), full-length 24)

pub longest-length : (f : Form) → length (longest_sheet f) ≡ longest f
unfolding longest_sheet front full up_from
longest-length f =
    omega (arith, length-append front (times 256 (full 28) ++ fifth f), length-append (times 256 (full 28)) (fifth f), times-length 256 (full 28), fifth-length f)

front-alike : (f : Form) → Alike 33 (longest_sheet f) front
unfolding longest_sheet front full up_from
front-alike f = record {
  long = omega (arith, longest-length f, fifth-length f);
  as_long = omega arith;
  same = λ i h. get_or-append front (times 256 (full 28) ++ fifth f) 0 i h;
}

front-head : Head
front-head = record { wires = 12; pins = up_from 12 0; sees_a = 255; sees_b = 255; count = 256 }

front-is : head front 0 ≡ got front-head 33
unfolding front-head front full up_from byte word within count word_count rising entry entries mask_of mask counted_mask head
front-is = refl

-- a count of excuses that stands after p
pub low_count : (k : ℕ) → k ≤ excuse_limit → (p t : List ℕ) → word_count excuse_limit (p ++ (k ∷ 0 ∷ t)) (length p) ≡ got k (length p + 2)
unfolding word_count word within
low_count k l p t =
    let s : List ℕ = p ++ (k ∷ 0 ∷ t) in
    let long : length s ≡ length p + suc (suc (length t)) = length-append p (k ∷ 0 ∷ t) in
    let low : get_or s (length p) 0 ≡ k = ap (λ (i : ℕ). get_or s i 0) (sym (add-zero (length p))) ∙ get_or-append-add p (k ∷ 0 ∷ t) 0 0 in
    let high : get_or s (length p + 1) 0 ≡ 0 = get_or-append-add p (k ∷ 0 ∷ t) 1 0 in
    let same : k + 256 * 0 ≡ k = omega arith in
    let place : length p + 1 + 1 ≡ length p + 2 = omega arith in
    rw (byte-there s (length p) (omega arith), byte-there s (length p + 1) (omega arith), low, high, same, le-leb k excuse_limit l) (ap (got k) place)

-- the excuses stand after the rules, and the sheet ends with them
excuses-full : (f : Form) (p : List ℕ) → (es : List ℕ) × (excuses f 12 (p ++ fifth f) (length p) ≡ got es (length (p ++ fifth f)))
unfolding excuses fifth
excuses-full One p = ([], ap (λ (l : List ℕ). got [] (length l)) (sym (append-nil p)))
excuses-full Two p =
    let q : List ℕ = p ++ (64 ∷ 0 ∷ []) in
    let r = rules-full 64 24 q [] in
    let whole : q ++ (times 64 (full 24) ++ []) ≡ p ++ (64 ∷ 0 ∷ times 64 (full 24)) = ap (λ (l : List ℕ). q ++ l) (append-nil (times 64 (full 24))) ∙ append_assoc p (64 ∷ 0 ∷ []) (times 64 (full 24)) in
    let end : length (q ++ times 64 (full 24)) ≡ length (p ++ (64 ∷ 0 ∷ times 64 (full 24))) = ap length (append_assoc p (64 ∷ 0 ∷ []) (times 64 (full 24))) in
    let place : length q ≡ length p + 2 = length-append p (64 ∷ 0 ∷ []) in
    (r.0, rw (low_count 64 (omega arith) p (times 64 (full 24))) (ap₂ (λ (s : List ℕ) (at : ℕ). rules 64 24 s at) (sym whole) (sym place) ∙ r.1 ∙ ap (got r.0) end))

pub longest-accepted : (f : Form) → (j : Job) × (read_job f (longest_sheet f) ≡ accepted j)
unfolding read_job job longest_sheet front-head front full up_from
longest-accepted f =
    let r = rules-full 256 28 front (fifth f) in
    let x = excuses-full f (front ++ times 256 (full 28)) in
    let whole : (front ++ times 256 (full 28)) ++ fifth f ≡ longest_sheet f = append_assoc front (times 256 (full 28)) (fifth f) in
    let es : excuses f 12 (longest_sheet f) (length (front ++ times 256 (full 28))) ≡ got x.0 (length (longest_sheet f)) =
    ap (λ (s : List ℕ). excuses f 12 s (length (front ++ times 256 (full 28)))) (sym whole) ∙ x.1 ∙ ap (λ (s : List ℕ). got x.0 (length s)) whole in
    let top : head (longest_sheet f) 0 ≡ got front-head 33 = near-head.alike 33 (longest_sheet f) front (front-alike f) (omega arith) ∙ front-is in
    (record { pins = up_from 12 0; sees_a = 255; sees_b = 255; rules = r.0; excuses = x.0 }, rw (top, r.1, es, end_read (longest_sheet f) (length (longest_sheet f)) refl))
