-- What a table has: names and numbers with blanks beside them, so that its columns line up, and names in double quotes,
-- as a comma-separated one has them.
-- Assumes nothing.
use Rattle.std.specs.Prelude.{List, [], ◌∷◌, ◌++◌, ℕ, ◌-◌, max, length, replicate}
use Rattle.text.specs.Ascii.{ascii}
use Rattle.text.specs.Lines.{space}
use Rattle.names.specs.declared.Kind.{Kind}
use Rattle.names.specs.Names.{plain_names, name_of}

-- the blanks from one column of a line to another
abbrev pub blanks : ℕ → ℕ → List ℕ
blanks from to = replicate (to - from) space

-- bytes with blanks behind them, and with blanks in front of them, so many in all
unfoldable pub padded : ℕ → List ℕ → List ℕ
padded width bytes = bytes ++ blanks (length bytes) width

unfoldable pub aligned : ℕ → List ℕ → List ℕ
aligned width bytes = blanks (length bytes) width ++ bytes

-- how many bytes the longest of some names has
abbrev pub longest : List (List ℕ) → ℕ
longest [] = 0
longest (n ∷ ns) = max (length n) (longest ns)

-- the width of a column of names of a kind
abbrev pub column_of : Kind → ℕ
column_of k = longest (plain_names k)

-- A NAME IN ITS COLUMN
unfoldable pub padded_name : Kind → ℕ → List ℕ
padded_name k n = padded (column_of k) (name_of k n)

-- A NAME IN QUOTES
unfoldable pub quoted_name : Kind → ℕ → List ℕ
quoted_name k n = ascii "\"" ++ (name_of k n ++ ascii "\"")
