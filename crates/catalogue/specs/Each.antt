-- What the laws of pieces, and private contracts above this crate, ask of the lines of a list's days.
-- Assumes nothing.
use Rattle.std.specs.Prelude.{◌≡◌, true, List, [], ◌∷◌, ℕ}
use Rattle.names.specs.declared.Print.{Print}
use Rattle.catalogue.specs.Pieces.{line_fits}

-- each number is a day whose line fits whole into so many bytes
unfoldable pub EachFits : Print → ℕ → ℕ → List ℕ → Type 0
EachFits form ed room [] = Unit {0}
EachFits form ed room (d ∷ ds) = (line_fits form ed room d ≡ true) × EachFits form ed room ds
