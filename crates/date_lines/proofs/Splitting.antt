-- A text's first line, which ends with the first newline, and the lines behind it. Assumes nothing.
use mathlib.Core.Bool.{Bool, true, false, cond}
use mathlib.Core.Path.{◌≡◌, refl, ap, ap₂, sym, ◌∙◌}
use mathlib.Core.List.{List, [], ◌∷◌, ◌++◌}
use Prim.Native.Nat.{ℕ, zero, suc, ◌+◌, ◌<◌, min}
use native.Mathlib.Omega.{arith}
use lib.Dec.{eqb}
use lib.ListN.{length, take, drop}
use lib.Seq.{take_at, drop_at}
use Rattle.std.specs.List.{IsFirstMatchOrLen}
use Rattle.text.specs.Lines.{newline}
use Rattle.words.specs.Words.{in_front}
use Rattle.date_lines.specs.Texts.{lines_of}

-- how many bytes the first line has, its newline included
unfoldable first_length : List ℕ → ℕ
first_length [] = 0
first_length (b ∷ bs) = cond (eqb b newline) 1 (suc (first_length bs))

first-line : (b : ℕ) (bs : List ℕ) → lines_of (b ∷ bs) ≡ take (first_length (b ∷ bs)) (b ∷ bs) ∷ lines_of (drop (first_length (b ∷ bs)) (b ∷ bs))
unfolding lines_of first_length in_front
first-line b [] = go (eqb b newline)
  where
    go : (t : Bool) → cond t ((b ∷ []) ∷ []) ((b ∷ []) ∷ []) ≡ take (cond t 1 1) (b ∷ []) ∷ lines_of (drop (cond t 1 1) (b ∷ []))
    go true = refl
    go false = refl
first-line b (c ∷ cs) = go (eqb b newline) (ap (in_front b) (first-line c cs))
  where
    n : ℕ
    n = first_length (c ∷ cs)

    go : (t : Bool) → in_front b (lines_of (c ∷ cs)) ≡ (b ∷ take n (c ∷ cs)) ∷ lines_of (drop n (c ∷ cs)) → cond t ((b ∷ []) ∷ lines_of (c ∷ cs)) (in_front b (lines_of (c ∷ cs))) ≡ take (cond t 1 (suc n)) (b ∷ c ∷ cs) ∷ lines_of (drop (cond t 1 (suc n)) (b ∷ c ∷ cs))
    go true h = refl
    go false h = h

split : (bs : List ℕ) → 0 < length bs → lines_of bs ≡ take (first_length bs) bs ∷ lines_of (drop (first_length bs) bs)
split [] h = absurd (omega arith)
split (b ∷ bs) h = first-line b bs

pub no_lines : (text : List ℕ) → length text ≡ 0 → lines_of text ≡ []
unfolding lines_of
no_lines [] h = refl
no_lines (b ∷ bs) h = absurd (omega arith)

pub some_line : (text : List ℕ) → 0 < length text → 0 < length (lines_of text)
some_line text h = omega (arith, ap length (split text h))

-- a text cut behind its first newline
first_at : (bs : List ℕ) (i : ℕ) → IsFirstMatchOrLen (λ b. eqb b newline) bs i → first_length bs ≡ min (i + 1) (length bs)
unfolding first_length
first_at [] i h = omega arith
first_at (b ∷ bs) zero h = rw (h.1 (omega arith) 0) (omega arith)
first_at (b ∷ bs) (suc i) h = rw (h.0 0 0 (omega arith) (omega arith)) (omega (arith, first_at bs i (λ k d l m. h.0 (suc k) d (omega arith) (omega arith), λ l d. h.1 (omega arith) d)))

pub line-cut :
    (text line rest : List ℕ) (i : ℕ) →
    text ≡ line ++ rest →
    length line ≡ min (i + 1) (length text) →
    IsFirstMatchOrLen (λ b. eqb b newline) text i →
    0 < length text →
    lines_of text ≡ line ∷ lines_of rest
line-cut text line rest i e s f h =
    let n : first_length text ≡ length line = first_at text i f ∙ sym s in
    let front : take (first_length text) text ≡ line = ap₂ take n e ∙ take_at line rest (length line) refl in
    let back : drop (first_length text) text ≡ rest = ap₂ drop n e ∙ drop_at line rest (length line) refl in
    split text h ∙ ap₂ (λ (l m : List ℕ). l ∷ lines_of m) front back
