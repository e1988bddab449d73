-- What is written is read.
--     Reads                       what stands anywhere in a sheet is read as a given value, up to its end
--     reads_then, reads-give      two steps one after the other, and a value made of what was read
--     sound-read                  the sheet of a job with which nothing is amiss is read as the job
-- Assumes nothing.
use mathlib.Core.Path.{◌≡◌, sym, ap, ◌∙◌}
use mathlib.Core.List.{List, [], ◌∷◌, ◌++◌, append-nil, append_assoc}
use Prim.Native.Nat.{ℕ, ◌+◌, ◌*◌, ◌/◌, ◌%◌, ◌≤◌, ◌<◌}
use native.Mathlib.Nat.{zero-add}
use native.Mathlib.Omega.{arith}
use borrow.Author.Tests.{lt-ltb, le-leb}
use lib.ListN.{length, length-append}
use lib.Seq.{get_or-append_seam}
use Rattle.steps.specs.Step.{got, Reading, ◌>>=◌, give}
use Rattle.steps.specs.Bytes.{byte, word, within, count, word_count, rising, entry, entries, end}
use Rattle.steps.proofs.Near.{byte-there, end_read}
use Rattle.sheet.specs.declared.Form.TheVariants.{One}
use Rattle.sheet.specs.Job.{Job, Head, accepted}
use Rattle.sheet.specs.JobSheet.{wire_limit, seen_limit, pin_limit, rule_limit, terms_of, mask_of, mask, counted_mask, rules, excuses, head, job, read_job}
use Rattle.answer.specs.Written.{two}
use Rattle.writer.specs.JobWritten.{members, counted, rules_bytes, job_sheet}
use Rattle.writer.proofs.Masks.{Rising, mask-members}
use Rattle.writer.proofs.Sound.{IsSet, Rules, Sound}

-- l, after any p and before any t
Reads : {A : Type 0} → Reading A → List ℕ → A → Type 0
Reads m l a = (p t : List ℕ) → m (p ++ (l ++ t)) (length p) ≡ got a (length p + length l)

module _ {A B : Type 0} (m : Reading A) where
  reads_then : (f : A → Reading B) (l l' : List ℕ) (a : A) (b : B) → Reads m l a → Reads (f a) l' b → Reads (m >>= f) (l ++ l') b
  unfolding Reads
  reads_then f l l' a b first rest p t =
      let there : m (p ++ (l ++ (l' ++ t))) (length p) ≡ got a (length p + length l) = first p (l' ++ t) in
      let later : f a (p ++ (l ++ (l' ++ t))) (length p + length l) ≡ got b (length p + length l + length l') = rw (append_assoc p l (l' ++ t), length-append p l) at (rest (p ++ l) t) in
      let place : length p + length l + length l' ≡ length p + length (l ++ l') = omega (arith, length-append l l') in
      rw (append_assoc l l' t, there) (later ∙ ap (got b) place)

  reads-give : (g : A → B) (l : List ℕ) (a : A) → Reads m l a → Reads (m >>= (λ x. give (g x))) l (g a)
  unfolding Reads
  reads-give g l a first p t = rw (first p t)

module _ {A : Type 0} where
  reads_as : (m : Reading A) (l : List ℕ) (a b : A) → a ≡ b → Reads m l a → Reads m l b
  reads_as m l a b e r = rw (← e) r

  reads_none : (a : A) → Reads (give a) [] a
  unfolding Reads
  reads_none a p t = let none : length p ≡ length p + 0 = omega arith in ap (got a) none

-- ---- the steps

byte_reads : (v : ℕ) → Reads byte (v ∷ []) v
unfolding Reads
byte_reads v p t =
    byte-there (p ++ v ∷ t) (length p) (omega (arith, length-append p (v ∷ t)))
    ∙ ap (λ (x : ℕ). got x (length p + 1)) (get_or-append_seam p v t 0)

count-reads : (most n : ℕ) → n ≤ most → Reads (count most) (n ∷ []) n
unfolding Reads count within
count-reads most n l p t = rw (byte_reads n p t, le-leb n most l)

word-reads : (v : ℕ) → Reads word (two v) v
unfolding word
word-reads v =
    reads_as word (two v) (v % 256 + 256 * (v / 256)) v (omega arith)
    (reads_then byte _ (v % 256 ∷ []) (v / 256 ∷ []) (v % 256) (v % 256 + 256 * (v / 256)) (byte_reads (v % 256))
    (reads-give byte (λ high. v % 256 + 256 * high) (v / 256 ∷ []) (v / 256) (byte_reads (v / 256))))

word-count-reads : (most n : ℕ) → n ≤ most → Reads (word_count most) (two n) n
unfolding Reads word_count within
word-count-reads most n l p t = rw (word-reads n p t, le-leb n most l)

entry-reads : (limit least e : ℕ) → least ≤ e → e < limit → Reads (entry limit least) (e ∷ []) e
unfolding Reads entry rising
entry-reads limit least e l h p t = rw (byte_reads e p t, lt-ltb e limit h, le-leb least e l)

entries-reads : (limit least : ℕ) (es : List ℕ) → Rising least limit es → Reads (entries (length es) limit least) es es
unfolding entries
entries-reads limit least [] r = reads_none []
entries-reads limit least (e ∷ es) r =
    reads_then (entry limit least) _ (e ∷ []) es e (e ∷ es) (entry-reads limit least e r.0 r.1)
    (reads-give (entries (length es) limit (e + 1)) (λ l. e ∷ l) es es (entries-reads limit (e + 1) es r.2))

-- ---- the sections

set_reads : (most limit m : ℕ) → IsSet most limit m → Reads (counted_mask most limit) (counted (members m)) m
unfolding counted_mask mask
set_reads most limit m ok =
    let es = members m in
    reads_as (counted_mask most limit) (counted es) (mask_of es) m (mask-members m ok.small)
    (reads_then (count most) _ (length es ∷ []) es (length es) (mask_of es) (count-reads most (length es) ok.few)
    (reads-give (entries (length es) limit 0) mask_of es es (entries-reads limit 0 es ok.rise)))

rules-reads : (terms : ℕ) (rs : List ℕ) → Rules terms rs → Reads (rules (length rs) terms) (rules_bytes rs) rs
unfolding rules rules_bytes
rules-reads terms [] ok = reads_none []
rules-reads terms (r ∷ rs) ok =
    reads_then (counted_mask terms terms) _ (counted (members r)) (rules_bytes rs) r (r ∷ rs) (set_reads terms terms r ok.0)
    (reads-give (rules (length rs) terms) (λ l. r ∷ l) (rules_bytes rs) rs (rules-reads terms rs ok.1))

module _ (j : Job) where
  -- the sections down to the count of rules
  abbrev front : List ℕ
  front = counted j.pins ++ (counted (members j.sees_a) ++ (counted (members j.sees_b) ++ two (length j.rules)))

  abbrev head_of : (count : ℕ) → Head
  head_of k = record { wires = length j.pins; pins = j.pins; sees_a = j.sees_a; sees_b = j.sees_b; count = k }

  abbrev job_of : (excuses : List ℕ) → Job
  job_of es = record { pins = j.pins; sees_a = j.sees_a; sees_b = j.sees_b; rules = j.rules; excuses = es }

  head-reads : Sound j → Reads head front (head_of (length j.rules))
  unfolding head
  head-reads ok =
      let n = length j.pins in
      let h = head_of (length j.rules) in
      let a = counted (members j.sees_a) in
      let b = counted (members j.sees_b) in
      let k = two (length j.rules) in
      reads_then (count wire_limit) _ (n ∷ []) (j.pins ++ (a ++ (b ++ k))) n h (count-reads wire_limit n ok.few)
      (reads_then (entries n pin_limit 0) _ j.pins (a ++ (b ++ k)) j.pins h (entries-reads pin_limit 0 j.pins ok.pins)
      (reads_then (counted_mask seen_limit n) _ a (b ++ k) j.sees_a h (set_reads seen_limit n j.sees_a ok.sees_a)
      (reads_then (counted_mask seen_limit n) _ b k j.sees_b h (set_reads seen_limit n j.sees_b ok.sees_b)
      (reads-give (word_count rule_limit) head_of k (length j.rules) (word-count-reads rule_limit (length j.rules) ok.most)))))

  sheet-front : job_sheet j ≡ front ++ rules_bytes j.rules
  unfolding job_sheet
  sheet-front =
      ap (λ (l : List ℕ). l ++ rules_bytes j.rules)
      (regroup (counted j.pins) (counted (members j.sees_a)) (counted (members j.sees_b)) (two (length j.rules)))
    where
      regroup : (a b c d : List ℕ) → a ++ b ++ c ++ d ≡ a ++ (b ++ (c ++ d))
      regroup a b c d = simp append_assoc

  pub sound-read : Sound j → read_job One (job_sheet j) ≡ accepted j
  unfolding Reads excuses read_job job
  sound-read ok =
      let r = rules_bytes j.rules in
      let s = front ++ r in
      let first : head s 0 ≡ got (head_of (length j.rules)) (length front) = head-reads ok [] r ∙ ap (got (head_of (length j.rules))) (zero-add (length front)) in
      let then : rules (length j.rules) (terms_of (length j.pins)) s (length front) ≡ got j.rules (length front + length r) =
      ap (λ (l : List ℕ). rules (length j.rules) (terms_of (length j.pins)) (front ++ l) (length front)) (sym (append-nil r))
      ∙ rules-reads (terms_of (length j.pins)) j.rules ok.rules front [] in
      let last : end s (length front + length r) ≡ got 0 (length front + length r) = end_read s (length front + length r) (length-append front r) in
      rw (sheet-front, first, then, last) (ap (λ (es : List ℕ). accepted (job_of es)) (sym ok.excuses))
