-- Names with a space between them fall into these names again. It computes. Assumes nothing.
use mathlib.Core.Path.{◌≡◌, refl}
use mathlib.Core.List.{List, [], ◌∷◌, ◌++◌}
use Prim.Native.Nat.{ℕ}
use Rattle.text.specs.Lines.{space}
use Rattle.words.specs.Words.{is_separator, in_front, pieces}
use Rattle.names.specs.declared.Kind.{Kind}
use Rattle.names.specs.declared.Kind.TheVariants.{Tithi, Nakshatra, Yoga, Karana, Sign, Month, Fortnight, Weekday}
use Rattle.names.specs.Names.{plain_names, other_names}

-- a table as the source has it
abbrev pub table : List (List ℕ) → List ℕ
table [] = []
table (n ∷ []) = n
table (n ∷ m ∷ ns) = n ++ (space ∷ table (m ∷ ns))

pub plain-pieces : (k : Kind) → pieces space (table (plain_names k)) ≡ plain_names k
unfolding pieces is_separator in_front
plain-pieces Tithi = refl
plain-pieces Nakshatra = refl
plain-pieces Yoga = refl
plain-pieces Karana = refl
plain-pieces Sign = refl
plain-pieces Month = refl
plain-pieces Fortnight = refl
plain-pieces Weekday = refl

pub other-pieces : (k : Kind) → pieces space (table (other_names k)) ≡ other_names k
unfolding pieces is_separator in_front
other-pieces Tithi = refl
other-pieces Nakshatra = refl
other-pieces Yoga = refl
other-pieces Karana = refl
other-pieces Sign = refl
other-pieces Month = refl
other-pieces Fortnight = refl
other-pieces Weekday = refl
