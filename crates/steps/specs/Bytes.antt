-- The steps of reading, at a place of a sheet: a byte, two bytes, a count, entries, the end.
-- Sheets are read left to right; the first fault decides. Assumes nothing: these are definitions.
use Rattle.std.specs.Prelude.{ℕ, zero, suc, ◌+◌, ◌*◌, List, [], ◌∷◌, length, get_or, ltb, leb}
use Rattle.steps.specs.declared.Refusal.TheVariants.{Ends, TooMany, NotRising, TooHigh, LeftOver}
use Rattle.steps.specs.Step.{got, refused, Reading, ◌>>=◌, give, pick}

-- a byte. Code 1, where the sheet ends, at its length
unfoldable pub byte : Reading ℕ
byte s at = pick (ltb at (length s)) (got (get_or s at 0) (at + 1)) (refused (Ends (length s)))

-- two bytes, low byte first
unfoldable pub word : Reading ℕ
word = do
  low ← byte
  high ← byte
  give (low + 256 * high)

-- a count that was read from place `first` on. Code 2, where it is above its limit, at its first byte
unfoldable pub within : (most first n : ℕ) → Reading ℕ
within most first n s at = pick (leb n most) (got n at) (refused (TooMany first))

unfoldable pub count : (most : ℕ) → Reading ℕ
count most s at = (byte >>= within most at) s at

unfoldable pub word_count : (most : ℕ) → Reading ℕ
word_count most s at = (word >>= within most at) s at

-- an entry e that was read at place `first`, where the next may be no lower than `least`. Code 4, where it is not below the limit, before code 3, where it does not rise
unfoldable pub rising : (limit least first e : ℕ) → Reading ℕ
rising limit least first e s at =
    pick (ltb e limit) (pick (leb least e) (got e at) (refused (NotRising first))) (refused (TooHigh first))

unfoldable pub entry : (limit least : ℕ) → Reading ℕ
entry limit least s at = (byte >>= rising limit least at) s at

-- n entries, strictly rising
unfoldable pub entries : (n limit least : ℕ) → Reading (List ℕ)
entries zero limit least = give []
entries (suc n) limit least = do
  e ← entry limit least
  es ← entries n limit (e + 1)
  give (e ∷ es)

-- nothing follows. Code 5, where something does, at the first byte left over
unfoldable pub end : Reading ℕ
end s at = pick (ltb at (length s)) (refused (LeftOver at)) (got 0 at)
