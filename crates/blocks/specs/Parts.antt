-- What only contracts of private functions speak of: the numbers of days one after another.
-- Assumes nothing.
use Rattle.std.specs.Prelude.{List, [], ◌∷◌, ◌++◌, ℕ}
use Rattle.blocks.specs.Blocks.{day_numbers}

unfoldable pub numbers_of : List ℕ → List ℕ
numbers_of [] = []
numbers_of (d ∷ ds) = day_numbers d ++ numbers_of ds
