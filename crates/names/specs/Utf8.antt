-- Texts in UTF-8 by their bytes: a character below 128 is one byte, its code, and what is in ASCII is as it is there;
-- one below 2048 is two bytes and one below 65536 three.
-- Assumes nothing.
use Rattle.std.specs.Prelude.{ℕ, ◌+◌, ◌/◌, ◌%◌, cond, List, [], ◌∷◌, ◌++◌, ltb}
use Prim.Native.Char.{code}
use Prim.Native.String.{String, [] as none, ◌∷◌ as ◌then◌}

-- the bytes of a character, by its code
abbrev pub encoded : ℕ → List ℕ
encoded c =
    cond (ltb c 128) (c ∷ [])
    (cond (ltb c 2048) ((192 + c / 64) ∷ (128 + c % 64) ∷ []) ((224 + c / 4096) ∷ (128 + c / 64 % 64) ∷ (128 + c % 64) ∷ []))

abbrev pub utf8 : String → List ℕ
utf8 none = []
utf8 (c then s) = encoded (code c) ++ utf8 s
