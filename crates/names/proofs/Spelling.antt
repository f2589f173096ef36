-- The plain spelling is the transliteration's by one rule: a mark is left out, ś and ṣ are sh, ṛ is ri, and c is ch. So
-- no name of one list is misspelt in the other. It computes. Assumes nothing.
use Prim.Native.Nat.{ℕ}
use Prim.Native.Char.{code}
use Prim.Native.String.{String, [] as none, ◌∷◌ as ◌then◌}
use mathlib.Core.Bool.{cond, ◌||◌}
use mathlib.Core.Path.{◌≡◌, refl}
use mathlib.Core.List.{List, [], ◌∷◌, ◌++◌, map}
use lib.Dec.{eqb}
use Rattle.text.specs.Ascii.{ascii}
use Rattle.names.specs.Tables.{tithis, nakshatras, yogas, karanas, signs, months, fortnights, marked_tithis, marked_nakshatras, marked_yogas, marked_karanas, marked_signs, marked_months, marked_fortnights}

-- the plain letters of a letter
abbrev plain_letters : ℕ → List ℕ
plain_letters c =
    cond (eqb c (code "ā")) (ascii "a")
    (cond (eqb c (code "ī")) (ascii "i")
    (cond (eqb c (code "ū")) (ascii "u")
    (cond (eqb c (code "ṛ")) (ascii "ri")
    (cond (eqb c (code "ś") || eqb c (code "ṣ")) (ascii "sh")
    (cond (eqb c (code "ṭ")) (ascii "t")
    (cond (eqb c (code "ḍ")) (ascii "d")
    (cond (eqb c (code "ṇ") || eqb c (code "ñ")) (ascii "n") (cond (eqb c (code "ṃ")) (ascii "m") (cond (eqb c (code "c")) (ascii "ch") (c ∷ []))))))))))

abbrev spelled_plainly : String → List ℕ
spelled_plainly none = []
spelled_plainly (c then s) = plain_letters (code c) ++ spelled_plainly s

pub spelled-alike :
    map (map spelled_plainly) (marked_tithis ∷ marked_nakshatras ∷ marked_yogas ∷ marked_karanas ∷ marked_signs ∷ marked_months ∷ marked_fortnights ∷ [])
    ≡ map (map ascii) (tithis ∷ nakshatras ∷ yogas ∷ karanas ∷ signs ∷ months ∷ fortnights ∷ [])
spelled-alike = refl
