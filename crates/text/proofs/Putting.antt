-- What holds along a loop that puts bytes or numbers on a line: those left, put on the line so far, make the line
-- meant.
-- Assumes nothing.
use Prim.Native.Nat.{ℕ, suc, ◌+◌, ◌≤◌, ◌<◌}
use mathlib.Core.Path.{◌≡◌, ap, sym, ◌∙◌}
use mathlib.Core.List.{List, [], ◌∷◌, ◌++◌}
use native.Mathlib.Numerals.{add-one}
use lib.ListN.{length, get_or, drop, drop_of_length-le}
use lib.Seq.{drop-cons}
use Rattle.text.specs.declared.Line.{Line}
use Rattle.text.specs.Decimal.{digits_of}
use Rattle.text.specs.Lines.{space, line_capacity, with_byte, with_bytes, spaced}
use Rattle.text.proofs.Lines.{stored, with-byte-fits, with-byte-full, with-bytes-none, with-bytes-more, with-bytes-append}

-- before the element at i is put on the line m; l is the line at the start, and bytes are what a list of elements puts
abbrev pub Putting : (List ℕ → List ℕ) → Line → List ℕ → Line → ℕ → Type 0
Putting bytes l s m i = with_bytes m (bytes (drop i s)) ≡ with_bytes l (bytes s)

-- the bytes of a list are itself
abbrev pub itself : List ℕ → List ℕ
itself s = s

-- the line with a space and n
abbrev pub with_number : Line → ℕ → Line
with_number l n = with_bytes (with_byte l space) (digits_of n)

spaced-none : (l : Line) → with_bytes l (spaced []) ≡ l
unfolding spaced
spaced-none l = with-bytes-none l

spaced-more : (l : Line) (n : ℕ) (ns : List ℕ) → with_bytes l (spaced (n ∷ ns)) ≡ with_bytes (with_number l n) (spaced ns)
unfolding spaced
spaced-more l n ns =
    with-bytes-more l space (digits_of n ++ spaced ns) ∙ sym (with-bytes-append (with_byte l space) (digits_of n) (spaced ns))

module _ (bytes : List ℕ → List ℕ) (l : Line) (s : List ℕ) (m : Line) (i : ℕ) (p : Putting bytes l s m i) where
  -- one more is put, which makes the line n
  next :
      (n : Line) →
      i < length s →
      with_bytes m (bytes (get_or s i 0 ∷ drop (suc i) s)) ≡ with_bytes n (bytes (drop (suc i) s)) →
      Putting bytes l s n (i + 1)
  next n more one = rw add-one (sym one ∙ ap (λ r. with_bytes m (bytes r)) (sym (drop-cons s i 0 more)) ∙ p)

  end : length s ≤ i → with_bytes m (bytes []) ≡ m → m ≡ with_bytes l (bytes s)
  end none same = sym same ∙ ap (λ r. with_bytes m (bytes r)) (sym (drop_of_length-le s {i = i} none)) ∙ p

module _ (l : Line) (s : List ℕ) (m : Line) (i : ℕ) (p : Putting itself l s m i) where
  putting-next : i < length s → Putting itself l s (with_byte m (get_or s i 0)) (i + 1)
  putting-next more = next itself l s m i p _ more (with-bytes-more m (get_or s i 0) (drop (suc i) s))

  pub putting-fits : i < length s → m.len < line_capacity → Putting itself l s (stored m (get_or s i 0)) (i + 1)
  putting-fits more h = rw (with-byte-fits m (get_or s i 0) h) at (putting-next more)

  pub putting-full : i < length s → line_capacity ≤ m.len → Putting itself l s m (i + 1)
  putting-full more h = rw (with-byte-full m (get_or s i 0) h) at (putting-next more)

  pub putting-end : length s ≤ i → m ≡ with_bytes l s
  putting-end none = end itself l s m i p none (with-bytes-none m)

module _ (l : Line) (ns : List ℕ) (m : Line) (i : ℕ) (p : Putting spaced l ns m i) where
  pub numbers-next : i < length ns → Putting spaced l ns (with_number m (get_or ns i 0)) (i + 1)
  numbers-next more = next spaced l ns m i p _ more (spaced-more m (get_or ns i 0) (drop (suc i) ns))

  pub numbers-end : length ns ≤ i → m ≡ with_bytes l (spaced ns)
  numbers-end none = end spaced l ns m i p none (spaced-none m)
