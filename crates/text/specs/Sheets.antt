-- A sheet is its lines, printed one after another; and lines put into a buffer, which is written piece by piece.
-- Assumes nothing.
use Rattle.std.specs.Prelude.{ℕ, ◌+◌, Bool, cond, ◌≡◌, List, [], ◌∷◌, ◌++◌, leb, length, get_or, take, drop}

-- ALL THAT IS PRINTED of a sheet: its lines one after another
unfoldable pub joined : List (List ℕ) → List ℕ
joined [] = []
joined (l ∷ ls) = l ++ joined ls

-- line k, counted from 0; behind the last one nothing
unfoldable pub line_at : List (List ℕ) → ℕ → List ℕ
line_at lines k = get_or lines k []

-- these bytes are a sheet's from line j to before line k: what is due from line j on is they, and then what is due from
-- line k on
abbrev pub Between : List (List ℕ) → ℕ → ℕ → List ℕ → Type 0
Between lines j k bytes = joined (drop j lines) ≡ bytes ++ joined (drop k lines)

-- all of the bytes fit into a buffer from byte `at` on
unfoldable pub fits_at : List ℕ → ℕ → List ℕ → Bool
fits_at buffer at bytes = leb (at + length bytes) (length buffer)

-- the buffer with them there; as it was where they do not fit
unfoldable pub put_at : List ℕ → ℕ → List ℕ → List ℕ
put_at buffer at bytes = cond (fits_at buffer at bytes) ((take at buffer ++ bytes) ++ drop (at + length bytes) buffer) buffer
