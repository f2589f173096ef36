-- Lines of output, made byte by byte: what does not fit is not put.
use Rattle.std.specs.Prelude.{ℕ, ◌+◌, cond, ◌≡◌, ltb, leb, length, take, set, replicate}
use Prim.Native.Char.{code}
use mathlib.Core.List.{List, [], ◌∷◌, ◌++◌, foldl}
use Rattle.days.specs.Refusals.{list_too_short}
use Rattle.text.specs.declared.Line.{Line}
use Rattle.text.specs.Ascii.{ascii}
use Rattle.text.specs.Decimal.{digits_of}

-- the byte between two words of a line, and the one that ends it
abbrev pub space : ℕ
space = code " "

abbrev pub newline : ℕ
newline = code "\n"

-- the bytes that a line has room for
abbrev pub line_capacity : ℕ
line_capacity = 160

abbrev pub empty_line : Line
empty_line = record { bytes = replicate line_capacity 0; len = 0 }

unfoldable pub contents : Line → List ℕ
contents l = take l.len l.bytes

-- one byte more; a full line stays as it was
unfoldable pub with_byte : Line → ℕ → Line
with_byte l b = cond (ltb l.len line_capacity) (record { bytes = set l.bytes l.len b; len = l.len + 1 }) l

-- the bytes put one after another
unfoldable pub with_bytes : Line → List ℕ → Line
with_bytes l bs = foldl with_byte l bs

-- the numbers in decimal, each after a space
unfoldable pub spaced : List ℕ → List ℕ
spaced [] = []
spaced (n ∷ ns) = space ∷ (digits_of n ++ spaced ns)

-- what is promised of a line that is handed back: the empty line with these bytes put on it, and all of them are there
pub record Holds (l : Line) (bs : List ℕ) : Type 0 where
  pub made : l ≡ with_bytes empty_line bs
  pub whole : contents l ≡ bs

-- `refused` and the refusal's number on one line
unfoldable pub refusal_line : ℕ → List ℕ
refusal_line refusal = ascii "refused " ++ (digits_of refusal ++ ascii "\n")

-- a line's bytes where they fit it whole, else the refusal for want of room
unfoldable pub whole_line : List ℕ → List ℕ
whole_line bs = cond (leb (length bs) line_capacity) bs (refusal_line list_too_short)

-- the line with its newline, which comes last; where there is no room for it, that refusal
unfoldable pub ended : Line → Line
ended l = cond (ltb l.len line_capacity) (with_byte l newline) (with_bytes empty_line (refusal_line list_too_short))
