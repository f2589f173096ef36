-- The days of a run that pass a test.
-- Assumes nothing.
use Rattle.std.specs.Prelude.{Bool, cond, List, [], ◌∷◌, ℕ}

-- the elements of a list that pass a test, in their order
unfoldable pub filtered : (ℕ → Bool) → List ℕ → List ℕ
filtered p [] = []
filtered p (x ∷ xs) = cond (p x) (x ∷ filtered p xs) (filtered p xs)
