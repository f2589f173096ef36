-- Columns line up: no name is longer than its column, by induction on its list, so that each padded one is as long; and
-- no name has a byte but small letters and hyphens, so that one in quotes is one field. One test that computes over
-- each list. Assumes nothing.
use mathlib.Core.Path.{◌≡◌, refl, ap}
use mathlib.Core.Bool.{Bool, true, false, cond, ◌&&◌, ◌||◌, and-eq-true_iff}
use mathlib.Core.List.{List, [], ◌∷◌}
use Prim.Native.Nat.{ℕ, zero, suc, ◌+◌, ◌-◌, ◌≤◌, ◌<◌}
use Prim.Native.Char.{code}
use native.Mathlib.Omega.{arith}
use lib.Dec.{ltb, leb, eqb}
use lib.ListN.{length, take, replicate, length-append, length-replicate}
use Rattle.text.specs.declared.Line.{Line}
use Rattle.text.specs.Lines.{space, empty_line, contents, with_bytes, Holds}
use Rattle.text.proofs.Holding.{holds, holds-length}
use Rattle.text.proofs.Lines.{with-bytes-append}
use Rattle.words.specs.Words.{name_at}
use Rattle.names.specs.declared.Kind.{Kind}
use Rattle.names.specs.declared.Kind.TheVariants.{Tithi, Nakshatra, Yoga, Karana, Sign, Month, Fortnight, Weekday}
use Rattle.names.specs.Names.{plain_names, first_of, name_of}
use Rattle.names.specs.Columns.{blanks, padded, aligned, longest, column_of, padded_name, quoted_name}

-- ---- blanks one by one
pub blanks-more : (from to : ℕ) → from < to → blanks from to ≡ space ∷ blanks (from + 1) to
blanks-more from to h = let one : to - from ≡ suc (to - (from + 1)) = omega arith in ap (λ (n : ℕ). replicate n space) one

pub blanks-none : (from to : ℕ) → to ≤ from → blanks from to ≡ []
blanks-none from to h = let none : to - from ≡ 0 = omega arith in ap (λ (n : ℕ). replicate n space) none

-- ---- the widths of columns
none-longer : (ns : List (List ℕ)) (i : ℕ) → length (name_at ns i) ≤ longest ns
unfolding name_at
none-longer [] i = omega arith
none-longer (n ∷ ns) zero = omega arith
none-longer (n ∷ ns) (suc i) = omega (arith, none-longer ns i)

-- NO NAME IS LONGER than its column
pub name-fits : (k : Kind) (n : ℕ) → length (name_of k n) ≤ column_of k
unfolding name_of
name-fits k n = go (ltb n (first_of k))
  where
    go : (b : Bool) → length (cond b [] (name_at (plain_names k) (n - first_of k))) ≤ longest (plain_names k)
    go true = omega arith
    go false = none-longer (plain_names k) (n - first_of k)

-- and the widest column, of the tithis, has nineteen bytes
pub column-short : (k : Kind) → column_of k ≤ 19
column-short Tithi = omega arith
column-short Nakshatra = omega arith
column-short Yoga = omega arith
column-short Karana = omega arith
column-short Sign = omega arith
column-short Month = omega arith
column-short Fortnight = omega arith
column-short Weekday = omega arith

-- so that what fits is as long as its column
pub padded-length : (width : ℕ) (bytes : List ℕ) → length bytes ≤ width → length (padded width bytes) ≡ width
unfolding padded
padded-length width bytes h = simp (length-append, length-replicate) (omega arith)

pub aligned-length : (width : ℕ) (bytes : List ℕ) → length bytes ≤ width → length (aligned width bytes) ≡ width
unfolding aligned
aligned-length width bytes h = simp (length-append, length-replicate) (omega arith)

pub padded-name-length : (k : Kind) (n : ℕ) → length (padded_name k n) ≡ column_of k
unfolding padded_name
padded-name-length k n = padded-length (column_of k) (name_of k n) (name-fits k n)

pub quoted-short : (k : Kind) (n : ℕ) → length (quoted_name k n) ≤ 21
unfolding quoted_name
quoted-short k n = simp length-append (omega (arith, name-fits k n, column-short k))

-- ---- a name on a line of its own, from which it is put behind another
pub name-held : (k : Kind) (n : ℕ) (l m : Line) → m ≡ empty_line → l ≡ with_bytes m (name_of k n) → Holds l (name_of k n)
name-held k n l m e h = holds l (name_of k n) (omega (arith, name-fits k n, column-short k)) (rw (← e) h)

pub name-padded : (k : Kind) (n : ℕ) (l m : Line) → Holds m (name_of k n) → with_bytes (with_bytes l (take m.len m.bytes)) (blanks m.len (column_of k)) ≡ with_bytes l (padded_name k n)
unfolding contents padded padded_name
name-padded k n l m h = rw (h.whole, holds-length h) (with-bytes-append l (name_of k n) (blanks (length (name_of k n)) (column_of k)))

-- ---- what a name is made of
unfoldable pub of_letters : List ℕ → Bool
of_letters [] = true
of_letters (b ∷ bs) = ((leb (code "a") b && leb b (code "z")) || eqb b (code "-")) && of_letters bs

unfoldable each_of_letters : List (List ℕ) → Bool
each_of_letters [] = true
each_of_letters (n ∷ ns) = of_letters n && each_of_letters ns

each_at : (ns : List (List ℕ)) → each_of_letters ns ≡ true → (i : ℕ) → of_letters (name_at ns i) ≡ true
unfolding name_at each_of_letters of_letters
each_at [] e i = refl
each_at (n ∷ ns) e zero = ((and-eq-true_iff (of_letters n) (each_of_letters ns)).0 e).0
each_at (n ∷ ns) e (suc i) = each_at ns ((and-eq-true_iff (of_letters n) (each_of_letters ns)).0 e).1 i

plain-letters : (k : Kind) → each_of_letters (plain_names k) ≡ true
unfolding each_of_letters of_letters
plain-letters Tithi = refl
plain-letters Nakshatra = refl
plain-letters Yoga = refl
plain-letters Karana = refl
plain-letters Sign = refl
plain-letters Month = refl
plain-letters Fortnight = refl
plain-letters Weekday = refl

-- NO NAME HAS a quote, a comma or the end of a line in it
pub name-letters : (k : Kind) (n : ℕ) → of_letters (name_of k n) ≡ true
unfolding name_of
name-letters k n = go (ltb n (first_of k))
  where
    go : (b : Bool) → of_letters (cond b [] (name_at (plain_names k) (n - first_of k))) ≡ true
    go true = unfold of_letters in refl
    go false = each_at (plain_names k) (plain-letters k) (n - first_of k)
