-- What is said where a write to standard output fails; and what is promised of a sheet where none does.
-- Assumes nothing.
use Rattle.std.specs.Prelude.{List, ◌≡◌, ℕ, length, Result, IfOk}
use Rattle.text.specs.Ascii.{ascii}
use Rattle.output.specs.declared.NotWritten.{NotWritten}

unfoldable pub not_written : List ℕ
not_written = ascii "not all could be written\n"

-- where no write failed, all lines of a sheet were printed
abbrev pub AllWritten : List (List ℕ) → Result ℕ NotWritten → Type 0
AllWritten lines w = IfOk w (λ printed. printed ≡ length lines)
