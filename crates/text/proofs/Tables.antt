-- Digits and tables written to a buffer.
--     digit_room, digit_written, digits_all    a turn of the loop that writes a digit for each row, and its end
--     printed                     a text that is written from the front on is printed
--     first-asks, second-asks     what the writer of digits asks of each table that stands in a sheet
--     there                       the tables stand in the sheet
--     middle-room, last-room      there is room for the line between them, and for the last line feed
--     tables-printed              the five pieces are the text of the tables
-- Assumes nothing.
use mathlib.Core.Path.{◌≡◌, sym, ap, subst, ◌∙◌}
use mathlib.Core.List.{List, [], ◌∷◌, ◌++◌}
use Prim.Native.Nat.{ℕ, ◌+◌, ◌-◌, ◌≤◌, ◌<◌}
use native.Mathlib.Omega.{arith}
use lib.ListN.{length, get_or, take, drop, length-append, length-drop, length-map}
use lib.Seq.{length-sets, length-take-le, take_all}
use Rattle.board.specs.Places.{word_at}
use Rattle.std.proofs.lemmas.List.{map_push, take_more}
use Rattle.text.specs.Text.{digits, head_a, head_b, tables_text}
use Rattle.answer.specs.declared.page.Page.{Page}
use Rattle.answer.specs.Page.{Room, Wrote}
use Rattle.text.specs.Printing.{Small, Prints, TablesAsk, tables_of}
use Rattle.answer.proofs.Pieces.{both, first_room, next_room, from_front}

digits-length : (xs : List ℕ) → length (digits xs) ≡ length xs
digits-length xs = length-map xs (λ x. 48 + x)

-- i digits are written
module _ {p q : Page} (xs : List ℕ) (i : ℕ) (x : Wrote p (digits (take i xs)) q) where
  module _ (h : i < length xs) where
    pub digit_room : Room p (digits xs) → Room q ((48 + get_or xs i 0) ∷ [])
    digit_room fits =
        omega (arith, ap length x.stored.out_after ∙ length-sets p.bytes.now p.at (digits (take i xs)), digits-length xs, digits-length (take i xs), length-take-le i xs (omega arith))

    pub digit_written : {r : Page} → Wrote q ((48 + get_or xs i 0) ∷ []) r → Wrote p (digits (take (i + 1) xs)) r
    digit_written y = rw (take_more xs i 0 h, map_push (λ x. 48 + x) (take i xs) (get_or xs i 0)) (both x y)

  pub digits_all : length xs ≤ i → Wrote p (digits xs) q
  digits_all h = subst (λ (t : List ℕ). Wrote p (digits t) q) (take_all i xs h) x

pub printed : {p q : Page} (t : List ℕ) → p.at ≡ 0 → Room p t → Wrote p t q → {exit : List ℕ} → exit ≡ q.bytes.now → Prints t p.bytes.now exit q.at
printed t start fits x same = record { long = omega (arith, x.stored.value); bytes = same ∙ from_front start fits x }

-- the two tables of a sheet, of a and b rows
module _ (s : List ℕ) (p : Page) (start : p.at ≡ 0) (ask : TablesAsk s p.bytes.now) (a b : ℕ) (ea : a ≡ word_at s 0) (eb : b ≡ word_at s (2 + a)) where
  abbrev xs : List ℕ
  xs = take (2 + a - 2) (drop 2 s)

  abbrev ys : List ℕ
  ys = take (4 + a + b - (4 + a)) (drop (4 + a) s)

  eb-there : b ≡ word_at s (2 + word_at s 0)
  eb-there = eb ∙ ap (λ (n : ℕ). word_at s (2 + n)) ea

  xs-is : xs ≡ take (word_at s 0) (drop 2 s)
  xs-is = let e : 2 + a - 2 ≡ a = omega arith in ap (λ (n : ℕ). take n (drop 2 s)) (e ∙ ea)

  ys-is : ys ≡ take (word_at s (2 + word_at s 0)) (drop (4 + word_at s 0) s)
  ys-is =
      let e : 4 + a + b - (4 + a) ≡ b = omega arith in
      ap (λ (n : ℕ). take n (drop (4 + a) s)) (e ∙ eb-there) ∙ ap (λ (n : ℕ). take (word_at s (2 + word_at s 0)) (drop (4 + n) s)) ea

  few_a : a ≤ 256
  few_a = subst (λ (n : ℕ). n ≤ 256) (sym ea) ask.few_a

  few_b : b ≤ 256
  few_b = subst (λ (n : ℕ). n ≤ 256) (sym eb-there) ask.few_b

  pub there : 4 + a + b ≤ length s
  there = rw (ea, eb-there) ask.there

  xs-length : length xs ≡ a
  xs-length =
      let e : 2 + a - 2 ≡ a = omega arith in
      length-take-le (2 + a - 2) (drop 2 s) (omega (arith, length-drop 2 s, there)) ∙ e

  ys-length : length ys ≡ b
  ys-length =
      let e : 4 + a + b - (4 + a) ≡ b = omega arith in
      length-take-le (4 + a + b - (4 + a)) (drop (4 + a) s) (omega (arith, length-drop (4 + a) s, there)) ∙ e

  -- the text, piece by piece
  abbrev t₂ : List ℕ
  t₂ = head_a ++ digits xs

  abbrev t₃ : List ℕ
  t₃ = t₂ ++ head_b

  abbrev t₄ : List ℕ
  t₄ = t₃ ++ digits ys

  fits₅ : Room p (tables_text xs ys)
  fits₅ =
      let long : length (tables_text xs ys) ≡ 9 + length (digits xs) + 3 + length (digits ys) + 1 = simp length-append (omega arith) in
      omega (arith, digits-length xs, digits-length ys, xs-length, ys-length, few_a, few_b, ask.room)

  fits₄ : Room p t₄
  fits₄ = first_room p t₄ (10 ∷ []) fits₅

  fits₃ : Room p t₃
  fits₃ = first_room p t₃ (digits ys) fits₄

  fits₂ : Room p t₂
  fits₂ = first_room p t₂ head_b fits₃

  module _ {p₁ : Page} (x₁ : Wrote p head_a p₁) where
    pub first-asks : record { room : Room p₁ (digits xs); small : Small xs }
    first-asks = record {
      room = next_room x₁ (digits xs) fits₂;
      small = subst Small (sym xs-is) ask.small_a;
    }

    module _ {p₂ : Page} (x₂ : Wrote p₁ (digits xs) p₂) where
      pub middle-room : Room p₂ head_b
      middle-room = next_room (both x₁ x₂) head_b fits₃

      module _ {p₃ : Page} (x₃ : Wrote p₂ head_b p₃) where
        pub second-asks : record { room : Room p₃ (digits ys); small : Small ys }
        second-asks = record {
          room = next_room (both (both x₁ x₂) x₃) (digits ys) fits₄;
          small = subst Small (sym ys-is) ask.small_b;
        }

        module _ {p₄ : Page} (x₄ : Wrote p₃ (digits ys) p₄) where
          pub last-room : Room p₄ (10 ∷ [])
          last-room = next_room (both (both (both x₁ x₂) x₃) x₄) (10 ∷ []) fits₅

          pub tables-printed : {p₅ : Page} → Wrote p₄ (10 ∷ []) p₅ → {exit : List ℕ} → exit ≡ p₅.bytes.now → Prints (tables_of s) p.bytes.now exit p₅.at
          tables-printed {p₅} x₅ {exit} same =
              let f : tables_text xs ys ≡ tables_of s = λ i. tables_text (xs-is i) (ys-is i) in
              subst (λ (t : List ℕ). Prints t p.bytes.now exit p₅.at) f
              (printed (tables_text xs ys) start fits₅ (both (both (both (both x₁ x₂) x₃) x₄) x₅) same)
