-- Laws of a word in small letters: it is as long as the word; and what holds along a comparison with a name, byte by
-- byte.
-- Assumes nothing.
use mathlib.Core.Path.{◌≡◌, refl, ap, sym, ◌∙◌}
use mathlib.Core.Bool.{Bool, true, false, ◌&&◌, false≢true, and-eq-true_iff}
use mathlib.Core.List.{List, [], ◌∷◌}
use Prim.Native.Nat.{ℕ, suc, ◌+◌, ◌≤◌, ◌<◌}
use native.Mathlib.Omega.{arith}
use native.Mathlib.Numerals.{add-one}
use borrow.Author.Tests.{eq-eqb, ne_eqb}
use lib.Dec.{eqb}
use lib.ListN.{length, get_or, drop, drop_of_length-le}
use lib.Seq.{drop-cons}
use Rattle.words.specs.Words.{same_bytes, small_byte, small_from, small}

small-length : (before : ℕ) (w : List ℕ) → length (small_from before w) ≡ length w
unfolding small_from
small-length before [] = refl
small-length before (b ∷ w) = ap suc (small-length b w)

same_length : (s t : List ℕ) → same_bytes s t ≡ true → length s ≡ length t
unfolding same_bytes
same_length [] [] e = refl
same_length [] (b ∷ t) e = absurd (false≢true e)
same_length (a ∷ s) [] e = absurd (false≢true e)
same_length (a ∷ s) (b ∷ t) e = omega (arith, same_length s t ((and-eq-true_iff (eqb a b) (same_bytes s t)).0 e).1)

-- a word that is a name is as long as it
pub name-as-long : (n w : List ℕ) → same_bytes n (small w) ≡ true → length n ≡ length w
name-as-long n w e = same_length n (small w) e ∙ small-length 0 w

pub other_length : (n w : List ℕ) → (length n ≡ length w → ⊥) → false ≡ same_bytes n (small w)
other_length n w h = go (same_bytes n (small w)) refl
  where
    go : (t : Bool) → same_bytes n (small w) ≡ t → false ≡ same_bytes n (small w)
    go true e = absurd (h (name-as-long n w e))
    go false e = sym e

-- before the byte at i: those passed are the same, and the last of them is `before`
pub record Comparing (name word : List ℕ) (before i : ℕ) : Type 0 where
  pub long : length name ≡ length word
  pub ahead : same_bytes (drop i name) (small_from before (drop i word)) ≡ same_bytes name (small word)

pub comparing-start : (name word : List ℕ) → length name ≡ length word → Comparing name word 0 0
comparing-start name word long = record { long = long; ahead = refl }

module _ (name word : List ℕ) (before i : ℕ) (p : Comparing name word before i) where
  step :
      i < length name →
      same_bytes (drop i name) (small_from before (drop i word))
      ≡ eqb (get_or name i 0) (small_byte before (get_or word i 0)) && same_bytes (drop (suc i) name) (small_from (get_or word i 0) (drop (suc i) word))
  unfolding same_bytes small_from
  step more =
      let there : i < length word = omega (arith, p.long) in
      rw (drop-cons name i 0 more, drop-cons word i 0 there)

  pub comparing-next : i < length name → get_or name i 0 ≡ small_byte before (get_or word i 0) → Comparing name word (get_or word i 0) (i + 1)
  comparing-next more same =
      let here = rw (eq-eqb _ _ same) at (step more) in
      record { long = p.long; ahead = rw add-one (sym here ∙ p.ahead) }

  pub comparing-differs : i < length name → (get_or name i 0 ≡ small_byte before (get_or word i 0) → ⊥) → false ≡ same_bytes name (small word)
  comparing-differs more other = sym (rw (ne_eqb _ _ other) at (step more)) ∙ p.ahead

  pub comparing-end : length name ≤ i → true ≡ same_bytes name (small word)
  unfolding same_bytes small_from
  comparing-end none =
      let done : length word ≤ i = omega (arith, p.long) in
      rw (drop_of_length-le name {i = i} none, drop_of_length-le word {i = i} done) at p.ahead
