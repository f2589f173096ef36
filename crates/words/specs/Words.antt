-- How a text is split into lines, and a line into words; and the place of a word among names, in any letter case.
-- Assumes nothing.
use Rattle.std.specs.Prelude.{Bool, true, false, cond, not, ◌&&◌, ◌||◌, List, [], ◌∷◌, ℕ, zero, suc, ◌+◌, ◌%◌, eqb, leb, ltb, get_or, take, drop}
use Prim.Native.Char.{code}
use Rattle.text.specs.Lines.{space}

-- the separators beside newline and space, by their bytes: `#`, `-` and `:`
abbrev pub hash : ℕ
hash = code "#"

abbrev pub dash : ℕ
dash = code "-"

abbrev pub colon : ℕ
colon = code ":"

-- a byte separates; where the separator is a space, a tab, a carriage return and a comma do so too
unfoldable pub is_separator : ℕ → ℕ → Bool
is_separator s b = eqb b s || (eqb s space && (eqb b (code "\t") || (eqb b (code "\r") || eqb b (code ","))))

-- a byte is a separator, or it is none
abbrev pub in_run : Bool → ℕ → ℕ → Bool
in_run separators s b = cond separators (is_separator s b) (not (is_separator s b))

-- how many bytes at the front are separators, or are none
unfoldable pub run_length : Bool → ℕ → List ℕ → ℕ
run_length separators s [] = 0
run_length separators s (b ∷ bs) = cond (in_run separators s b) (suc (run_length separators s bs)) 0

-- the bytes before the first separator, and those after it
unfoldable pub up_to : ℕ → List ℕ → List ℕ
up_to s bs = take (run_length false s bs) bs

unfoldable pub after_first : ℕ → List ℕ → List ℕ
after_first s bs = drop (suc (run_length false s bs)) bs

-- the bytes without the blanks in front
unfoldable pub trimmed : List ℕ → List ℕ
trimmed bs = drop (run_length true space bs) bs

-- the first word, empty where there is none, and what follows it
abbrev pub first_word : List ℕ → List ℕ
first_word bs = up_to space (trimmed bs)

abbrev pub after_word : List ℕ → List ℕ
after_word bs = after_first space (trimmed bs)

-- what follows the first n words
unfoldable pub after_words : ℕ → List ℕ → List ℕ
after_words zero bs = bs
after_words (suc n) bs = after_words n (after_word bs)

-- a byte put in front of the first piece
unfoldable pub in_front : ℕ → List (List ℕ) → List (List ℕ)
in_front b [] = (b ∷ []) ∷ []
in_front b (p ∷ ps) = (b ∷ p) ∷ ps

-- the pieces between the separators; one more than there are separators
unfoldable pub pieces : ℕ → List ℕ → List (List ℕ)
pieces s [] = [] ∷ []
pieces s (b ∷ bs) = cond (is_separator s b) ([] ∷ pieces s bs) (in_front b (pieces s bs))

unfoldable pub same_bytes : List ℕ → List ℕ → Bool
same_bytes [] [] = true
same_bytes [] (b ∷ bs) = false
same_bytes (a ∷ s) [] = false
same_bytes (a ∷ s) (b ∷ bs) = eqb a b && same_bytes s bs

-- A letter with a mark is two or three bytes in UTF-8, and of these the last tells a capital from its small letter: ñ
-- is 195 177; ā, ī, ū and ś are 196 or 197 and an odd byte; ṛ, ṣ and the like are 225, 184 or 185, and an odd byte.
-- Such a capital's last byte is the even one below, and that of Ñ is 32 below, as a plain capital is.
unfoldable pub behind_mark : ℕ → Bool
behind_mark before = (eqb before 184 || eqb before 185) || (eqb before 196 || eqb before 197)

-- a byte of a word in small letters, by the byte before it
unfoldable pub small_byte : ℕ → ℕ → ℕ
small_byte before b =
    cond (ltb b (code "A")) b
    (cond (leb b (code "Z")) (b + 32)
    (cond (ltb b 128) b
    (cond (eqb before 195) (cond (ltb b 160) (b + 32) b) (cond (behind_mark before && eqb (b % 2) 0) (b + 1) b))))

-- a word in small letters
unfoldable pub small_from : ℕ → List ℕ → List ℕ
small_from before [] = []
small_from before (b ∷ bs) = small_byte before b ∷ small_from b bs

abbrev pub small : List ℕ → List ℕ
small w = small_from 0 w

-- a text without the byte order mark that some editors put in front: 239 187 191
unfoldable pub unmarked : List ℕ → List ℕ
unmarked t = cond (same_bytes (take 3 t) (239 ∷ 187 ∷ 191 ∷ [])) (drop 3 t) t

-- the place of a word among names, counted from 0, which are in small letters; of a word that is none of them, how many
-- names there are
unfoldable pub place_in : List (List ℕ) → List ℕ → ℕ
place_in [] w = 0
place_in (n ∷ ns) w = cond (same_bytes n (small w)) 0 (suc (place_in ns w))

-- the name at a place, empty where there is none
unfoldable pub name_at : List (List ℕ) → ℕ → List ℕ
name_at ns n = get_or ns n []
