-- `sheet::read_job` meets its contract: each step of the chain was refused, and the sheet with it, or found, and the next step was taken where it ended.
-- Assumes nothing.
use Rattle.std.proofs.Common.{rules, ◌≡◌, ◌∙◌, ap, ap₂, sym, arith, List, ℕ, Bor, Ok, Err}
use Rattle.std.proofs.lemmas.List.Edits.{sets}
use Rattle.steps.specs.Step.{Step, got, refused}
use Rattle.steps.specs.Bytes.{count, word_count, end}
use Rattle.steps.specs.Found.{Read, as_read}
use Rattle.steps.specs.declared.Refusal.{Refusal}
use Rattle.sheet.specs.declared.Form.{Form}
use Rattle.sheet.specs.declared.Reader.{Reader}
use Rattle.sheet.specs.JobSheet.{counted_mask, head, wire_limit, seen_limit, rule_limit}
use Rattle.sheet.specs.JobFound.{pins_pass, terms_pass, kept_masks}
use Rattle.steps.proofs.Steps.{found, faulty}
use Rattle.sheet.proofs.Heads.{count-bounds, word-count-bounds, stop₁, stop₂, stop₃, stop₄, stop₅, all as all-head}
use Rattle.sheet.proofs.Jobs.{no-head, none_kept, some-kept, no-terms, no_end, all}
use Rattle.sheet.proofs.read_job.Goals as goal

-- a step of a reader is one of the sheet that it holds, at the place where it stands
at_reader : (f : List ℕ → ℕ → Step ℕ) (r : Reader) (s : Bor (List ℕ)) (p : ℕ) (x : Read) → (r.sheet ≡ s) × (r.place ≡ p) → x ≡ as_read (f r.sheet.now r.place) → x ≡ as_read (f s.now p)
at_reader f r s p x e h = h ∙ ap₂ (λ (q : Bor (List ℕ)) (n : ℕ). as_read (f q.now n)) e.0 e.1

-- a reader that was moved holds the sheet that was opened
still : (r q : Reader) (s : Bor (List ℕ)) (p : ℕ) → (r.sheet ≡ q.sheet) × (r.place ≡ p) → (q.sheet ≡ s) × (q.place ≡ 0) → (r.sheet ≡ s) × (r.place ≡ p)
still r q s p e o = (e.0 ∙ o.0, e.1)

-- where the head was refused, nothing was stored
unread : (f : Form) (s : List ℕ) (w : Refusal) (l : List ℕ) → head s 0 ≡ refused w → l ≡ sets l 0 (kept_masks f s)
unread f s w l h = ap (sets l 0) (sym (none_kept f s w h))

module _ (s : Bor (List ℕ)) (o : Reader) (is-o : (o.sheet ≡ s) × (o.place ≡ 0)) where
  -- the wires were found, or refused
  wires : (x : Read) (n p : ℕ) → x ≡ as_read (count wire_limit o.sheet.now o.place) → x ≡ Ok (n, p) → count wire_limit s.now 0 ≡ got n p
  wires x n p e is = found (count wire_limit s.now 0) x n p (at_reader (count wire_limit) o s 0 x is-o e) is

  no_wires : (x : Read) (w : Refusal) → x ≡ as_read (count wire_limit o.sheet.now o.place) → x ≡ Err w → count wire_limit s.now 0 ≡ refused w
  no_wires x w e is = faulty (count wire_limit s.now 0) x w (at_reader (count wire_limit) o s 0 x is-o e) is

  -- a step after a move was found, or refused
  module _ (f : List ℕ → ℕ → Step ℕ) (r : Reader) (p : ℕ) (is-r : (r.sheet ≡ o.sheet) × (r.place ≡ p)) (x : Read) (e : x ≡ as_read (f r.sheet.now r.place)) where
    step : (v m : ℕ) → x ≡ Ok (v, m) → f s.now p ≡ got v m
    step v m is = found (f s.now p) x v m (at_reader f r s p x (still r o s p is-r is-o) e) is

    no_step : (w : Refusal) → x ≡ Err w → f s.now p ≡ refused w
    no_step w is = faulty (f s.now p) x w (at_reader f r s p x (still r o s p is-r is-o) e) is

pub returns-in_err-wires : goal.returns-in_err-wires
returns-in_err-wires c =
    let gone : head c.args.sheet.now 0 ≡ refused c.in_err-wires.field-0.0 = stop₁ c.args.sheet.now _ (no_wires c.args.sheet c.opened-reader.result c.opened-reader.ensures _ _ c.take_count.ensures c.in_err-wires.was) in
    record {
      value = rw (no-head c.args.form c.args.sheet.now _ gone) (search rules);
      masks_after = unread c.args.form c.args.sheet.now _ _ gone;
    }

pub returns-in_err-at_a : goal.returns-in_err-at_a
returns-in_err-at_a c =
    let f₁ = wires c.args.sheet c.opened-reader.result c.opened-reader.ensures _ _ _ c.take_count.ensures c.in_ok-wires.was in
    let gone : head c.args.sheet.now 0 ≡ refused c.in_err-at_a.field-0.0 = stop₂ c.args.sheet.now c.in_ok-wires.wires c.in_ok-wires.pins_at f₁ _ (faulty (pins_pass c.in_ok-wires.wires c.args.sheet.now c.in_ok-wires.pins_at) _ _ c.check_pins.ensures c.in_err-at_a.was) in
    record {
      value = rw (no-head c.args.form c.args.sheet.now _ gone) (search rules);
      masks_after = unread c.args.form c.args.sheet.now _ _ gone;
    }

pub take_set-requires : goal.take_set-requires
take_set-requires c =
    let f₁ = wires c.args.sheet c.opened-reader.result c.opened-reader.ensures _ _ _ c.take_count.ensures c.in_ok-wires.was in
    omega (arith, (count-bounds wire_limit c.args.sheet.now 0 _ _ f₁).0)

pub returns-in_err-sees_a : goal.returns-in_err-sees_a
returns-in_err-sees_a c =
    let f₁ = wires c.args.sheet c.opened-reader.result c.opened-reader.ensures _ _ _ c.take_count.ensures c.in_ok-wires.was in
    let f₂ = found (pins_pass c.in_ok-wires.wires c.args.sheet.now c.in_ok-wires.pins_at) _ _ _ c.check_pins.ensures c.in_ok-at_a.was in
    let gone : head c.args.sheet.now 0 ≡ refused c.in_err-sees_a.field-0.0 = stop₃ c.args.sheet.now c.in_ok-wires.wires c.in_ok-wires.pins_at f₁ _ c.in_ok-at_a.at_a f₂ _ (no_step c.args.sheet c.opened-reader.result c.opened-reader.ensures (counted_mask seen_limit c.in_ok-wires.wires) c.moved.result _ c.moved.ensures c.take_set.result c.take_set.ensures _ c.in_err-sees_a.was) in
    record {
      value = rw (no-head c.args.form c.args.sheet.now _ gone) (search rules);
      masks_after = unread c.args.form c.args.sheet.now _ _ gone;
    }

pub take_set-requires-2 : goal.take_set-requires-2
take_set-requires-2 c =
    let f₁ = wires c.args.sheet c.opened-reader.result c.opened-reader.ensures _ _ _ c.take_count.ensures c.in_ok-wires.was in
    omega (arith, (count-bounds wire_limit c.args.sheet.now 0 _ _ f₁).0)

pub returns-in_err-sees_b : goal.returns-in_err-sees_b
returns-in_err-sees_b c =
    let f₁ = wires c.args.sheet c.opened-reader.result c.opened-reader.ensures _ _ _ c.take_count.ensures c.in_ok-wires.was in
    let f₂ = found (pins_pass c.in_ok-wires.wires c.args.sheet.now c.in_ok-wires.pins_at) _ _ _ c.check_pins.ensures c.in_ok-at_a.was in
    let f₃ = step c.args.sheet c.opened-reader.result c.opened-reader.ensures (counted_mask seen_limit c.in_ok-wires.wires) c.moved.result _ c.moved.ensures c.take_set.result c.take_set.ensures _ _ c.in_ok-sees_a.was in
    let gone : head c.args.sheet.now 0 ≡ refused c.in_err-sees_b.field-0.0 = stop₄ c.args.sheet.now c.in_ok-wires.wires c.in_ok-wires.pins_at f₁ _ c.in_ok-at_a.at_a f₂ c.in_ok-sees_a.sees_a c.in_ok-sees_a.at_b f₃ _ (no_step c.args.sheet c.opened-reader.result c.opened-reader.ensures (counted_mask seen_limit c.in_ok-wires.wires) c.moved-2.result _ c.moved-2.ensures c.take_set-2.result c.take_set-2.ensures _ c.in_err-sees_b.was) in
    record {
      value = rw (no-head c.args.form c.args.sheet.now _ gone) (search rules);
      masks_after = unread c.args.form c.args.sheet.now _ _ gone;
    }

pub returns-in_err-rules : goal.returns-in_err-rules
returns-in_err-rules c =
    let f₁ = wires c.args.sheet c.opened-reader.result c.opened-reader.ensures _ _ _ c.take_count.ensures c.in_ok-wires.was in
    let f₂ = found (pins_pass c.in_ok-wires.wires c.args.sheet.now c.in_ok-wires.pins_at) _ _ _ c.check_pins.ensures c.in_ok-at_a.was in
    let f₃ = step c.args.sheet c.opened-reader.result c.opened-reader.ensures (counted_mask seen_limit c.in_ok-wires.wires) c.moved.result _ c.moved.ensures c.take_set.result c.take_set.ensures _ _ c.in_ok-sees_a.was in
    let f₄ = step c.args.sheet c.opened-reader.result c.opened-reader.ensures (counted_mask seen_limit c.in_ok-wires.wires) c.moved-2.result _ c.moved-2.ensures c.take_set-2.result c.take_set-2.ensures _ _ c.in_ok-sees_b.was in
    let gone : head c.args.sheet.now 0 ≡ refused c.in_err-rules.field-0.0 = stop₅ c.args.sheet.now c.in_ok-wires.wires c.in_ok-wires.pins_at f₁ _ c.in_ok-at_a.at_a f₂ c.in_ok-sees_a.sees_a c.in_ok-sees_a.at_b f₃ c.in_ok-sees_b.sees_b c.in_ok-sees_b.at_count f₄ _ (no_step c.args.sheet c.opened-reader.result c.opened-reader.ensures (word_count rule_limit) c.moved-3.result _ c.moved-3.ensures c.take_word_count.result c.take_word_count.ensures _ c.in_err-rules.was) in
    record {
      value = rw (no-head c.args.form c.args.sheet.now _ gone) (search rules);
      masks_after = unread c.args.form c.args.sheet.now _ _ gone;
    }

pub read_terms-requires : goal.read_terms-requires
read_terms-requires c =
    let f₁ = wires c.args.sheet c.opened-reader.result c.opened-reader.ensures _ _ _ c.take_count.ensures c.in_ok-wires.was in
    let f₅ = step c.args.sheet c.opened-reader.result c.opened-reader.ensures (word_count rule_limit) c.moved-3.result _ c.moved-3.ensures c.take_word_count.result c.take_word_count.ensures _ _ c.in_ok-rules.was in
    ((count-bounds wire_limit c.args.sheet.now 0 _ _ f₁).0, word-count-bounds rule_limit c.args.sheet.now _ _ _ f₅)

pub returns-in_err-excuses : goal.returns-in_err-excuses
returns-in_err-excuses c =
    let f₁ = wires c.args.sheet c.opened-reader.result c.opened-reader.ensures _ _ _ c.take_count.ensures c.in_ok-wires.was in
    let f₂ = found (pins_pass c.in_ok-wires.wires c.args.sheet.now c.in_ok-wires.pins_at) _ _ _ c.check_pins.ensures c.in_ok-at_a.was in
    let f₃ = step c.args.sheet c.opened-reader.result c.opened-reader.ensures (counted_mask seen_limit c.in_ok-wires.wires) c.moved.result _ c.moved.ensures c.take_set.result c.take_set.ensures _ _ c.in_ok-sees_a.was in
    let f₄ = step c.args.sheet c.opened-reader.result c.opened-reader.ensures (counted_mask seen_limit c.in_ok-wires.wires) c.moved-2.result _ c.moved-2.ensures c.take_set-2.result c.take_set-2.ensures _ _ c.in_ok-sees_b.was in
    let f₅ = step c.args.sheet c.opened-reader.result c.opened-reader.ensures (word_count rule_limit) c.moved-3.result _ c.moved-3.ensures c.take_word_count.result c.take_word_count.ensures _ _ c.in_ok-rules.was in
    let top = all-head c.args.sheet.now c.in_ok-wires.wires c.in_ok-wires.pins_at f₁ _ c.in_ok-at_a.at_a f₂ c.in_ok-sees_a.sees_a c.in_ok-sees_a.at_b f₃ c.in_ok-sees_b.sees_b c.in_ok-sees_b.at_count f₄ c.in_ok-rules.rules c.in_ok-rules.at_rules f₅ in
    record {
      value = rw (no-terms c.args.form c.args.sheet.now _ _ top _ (faulty (terms_pass c.args.form c.in_ok-wires.wires c.in_ok-rules.rules c.args.sheet.now c.in_ok-rules.at_rules) _ _ c.read_terms.ensures.value c.in_err-excuses.was)) (search rules);
      masks_after = c.read_terms.ensures.masks_after ∙ ap (sets c.args.masks.now 0) (some-kept c.args.form c.args.sheet.now _ _ top);
    }

pub returns-in_err-at_end : goal.returns-in_err-at_end
returns-in_err-at_end c =
    let f₁ = wires c.args.sheet c.opened-reader.result c.opened-reader.ensures _ _ _ c.take_count.ensures c.in_ok-wires.was in
    let f₂ = found (pins_pass c.in_ok-wires.wires c.args.sheet.now c.in_ok-wires.pins_at) _ _ _ c.check_pins.ensures c.in_ok-at_a.was in
    let f₃ = step c.args.sheet c.opened-reader.result c.opened-reader.ensures (counted_mask seen_limit c.in_ok-wires.wires) c.moved.result _ c.moved.ensures c.take_set.result c.take_set.ensures _ _ c.in_ok-sees_a.was in
    let f₄ = step c.args.sheet c.opened-reader.result c.opened-reader.ensures (counted_mask seen_limit c.in_ok-wires.wires) c.moved-2.result _ c.moved-2.ensures c.take_set-2.result c.take_set-2.ensures _ _ c.in_ok-sees_b.was in
    let f₅ = step c.args.sheet c.opened-reader.result c.opened-reader.ensures (word_count rule_limit) c.moved-3.result _ c.moved-3.ensures c.take_word_count.result c.take_word_count.ensures _ _ c.in_ok-rules.was in
    let top = all-head c.args.sheet.now c.in_ok-wires.wires c.in_ok-wires.pins_at f₁ _ c.in_ok-at_a.at_a f₂ c.in_ok-sees_a.sees_a c.in_ok-sees_a.at_b f₃ c.in_ok-sees_b.sees_b c.in_ok-sees_b.at_count f₄ c.in_ok-rules.rules c.in_ok-rules.at_rules f₅ in
    let f₆ = found (terms_pass c.args.form c.in_ok-wires.wires c.in_ok-rules.rules c.args.sheet.now c.in_ok-rules.at_rules) _ _ _ c.read_terms.ensures.value c.in_ok-excuses.was in
    record {
      value = rw (no_end c.args.form c.args.sheet.now _ _ top _ _ f₆ _ (no_step c.args.sheet c.opened-reader.result c.opened-reader.ensures (end) c.moved-4.result _ c.moved-4.ensures c.at_end.result c.at_end.ensures _ c.in_err-at_end.was)) (search rules);
      masks_after = c.read_terms.ensures.masks_after ∙ ap (sets c.args.masks.now 0) (some-kept c.args.form c.args.sheet.now _ _ top);
    }

pub returns : goal.returns
returns c =
    let f₁ = wires c.args.sheet c.opened-reader.result c.opened-reader.ensures _ _ _ c.take_count.ensures c.in_ok-wires.was in
    let f₂ = found (pins_pass c.in_ok-wires.wires c.args.sheet.now c.in_ok-wires.pins_at) _ _ _ c.check_pins.ensures c.in_ok-at_a.was in
    let f₃ = step c.args.sheet c.opened-reader.result c.opened-reader.ensures (counted_mask seen_limit c.in_ok-wires.wires) c.moved.result _ c.moved.ensures c.take_set.result c.take_set.ensures _ _ c.in_ok-sees_a.was in
    let f₄ = step c.args.sheet c.opened-reader.result c.opened-reader.ensures (counted_mask seen_limit c.in_ok-wires.wires) c.moved-2.result _ c.moved-2.ensures c.take_set-2.result c.take_set-2.ensures _ _ c.in_ok-sees_b.was in
    let f₅ = step c.args.sheet c.opened-reader.result c.opened-reader.ensures (word_count rule_limit) c.moved-3.result _ c.moved-3.ensures c.take_word_count.result c.take_word_count.ensures _ _ c.in_ok-rules.was in
    let top = all-head c.args.sheet.now c.in_ok-wires.wires c.in_ok-wires.pins_at f₁ _ c.in_ok-at_a.at_a f₂ c.in_ok-sees_a.sees_a c.in_ok-sees_a.at_b f₃ c.in_ok-sees_b.sees_b c.in_ok-sees_b.at_count f₄ c.in_ok-rules.rules c.in_ok-rules.at_rules f₅ in
    let f₆ = found (terms_pass c.args.form c.in_ok-wires.wires c.in_ok-rules.rules c.args.sheet.now c.in_ok-rules.at_rules) _ _ _ c.read_terms.ensures.value c.in_ok-excuses.was in
    let f₇ = step c.args.sheet c.opened-reader.result c.opened-reader.ensures (end) c.moved-4.result _ c.moved-4.ensures c.at_end.result c.at_end.ensures _ _ c.in_ok-at_end.was in
    let first : c.in_ok-wires.pins_at ≡ 1 = omega (arith, (count-bounds wire_limit c.args.sheet.now 0 _ _ f₁).1) in
    record {
      value =
          ap
          (λ (p : ℕ). Ok (record { wires = c.in_ok-wires.wires; sees_a = c.in_ok-sees_a.sees_a; sees_b = c.in_ok-sees_b.sees_b; rules = c.in_ok-rules.rules; excuses = c.in_ok-excuses.excuses; pins_at = p }))
          first
          ∙ all c.args.form c.args.sheet.now _ _ top _ _ f₆ _ _ f₇;
      masks_after = c.read_terms.ensures.masks_after ∙ ap (sets c.args.masks.now 0) (some-kept c.args.form c.args.sheet.now _ _ top);
    }
