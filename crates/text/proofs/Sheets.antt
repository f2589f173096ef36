-- Lines of a sheet, put into a buffer one behind another and written where the next one does not fit: what was written
-- is the sheet so far, and at the end all of it. Assumes nothing.
use mathlib.Core.Bool.{true, false}
use mathlib.Core.Path.{◌≡◌, refl, ap, sym, ◌∙◌}
use mathlib.Core.List.{List, [], ◌∷◌, ◌++◌, append_assoc, append-nil}
use Prim.Native.Nat.{ℕ, suc, ◌+◌, ◌≤◌, ◌<◌, min}
use native.Mathlib.Decide.{dec_le}
use native.Mathlib.Numerals.{add-one}
use native.Mathlib.Omega.{arith}
use borrow.Author.Tests.{le-leb, lt-leb}
use lib.ListN.{length, get_or, take, drop, length-append, length-drop, get_or-eq_default}
use lib.Seq.{drop-cons, drop-length, take_at, take_all, length-take-le, paste}
use Rattle.text.specs.declared.Line.{Line}
use Rattle.text.specs.Lines.{line_capacity, contents}
use Rattle.text.specs.Sheets.{joined, line_at, Between, fits_at, put_at}

-- ---- which line is meant
pub line_first : (l : List ℕ) (ls : List (List ℕ)) → line_at (l ∷ ls) 0 ≡ l
unfolding line_at
line_first l ls = refl

pub line-next : (l : List ℕ) (ls : List (List ℕ)) (k : ℕ) → line_at (l ∷ ls) (suc k) ≡ line_at ls k
unfolding line_at
line-next l ls k = refl

pub line-behind : (ls : List (List ℕ)) (k : ℕ) → length ls ≤ k → line_at ls k ≡ []
unfolding line_at
line-behind ls k h = get_or-eq_default ls [] {n = k} h

-- ---- bytes of lines that follow one another
module _ (lines : List (List ℕ)) where
  pub between_none : (k : ℕ) → Between lines k k []
  between_none k = refl

  -- one line more
  pub between_more : (j k : ℕ) (bytes : List ℕ) → Between lines j k bytes → k < length lines → Between lines j (k + 1) (bytes ++ line_at lines k)
  unfolding joined line_at
  between_more j k bytes b h =
      b
      ∙ ap (λ (ls : List (List ℕ)). bytes ++ joined ls) (drop-cons lines k [] h)
      ∙ sym (append_assoc bytes (get_or lines k []) (joined (drop (suc k) lines)))
      ∙ ap (λ (n : ℕ). (bytes ++ get_or lines k []) ++ joined (drop n lines)) (sym (add-one k))

  -- THE LAW of what is written in pieces: one behind another they are the bytes from the first on
  pub between-both : (i j k : ℕ) (a b : List ℕ) → Between lines i j a → Between lines j k b → Between lines i k (a ++ b)
  between-both i j k a b p q = p ∙ ap (λ (l : List ℕ). a ++ l) q ∙ sym (append_assoc a b (joined (drop k lines)))

  -- and from the first line to the last they are all that is printed
  pub between-all : (bytes : List ℕ) → Between lines 0 (length lines) bytes → bytes ≡ joined lines
  unfolding joined
  between-all bytes b = sym (b ∙ ap (λ (ls : List (List ℕ)). bytes ++ joined ls) (drop-length lines) ∙ append-nil bytes)

-- ---- bytes put into a buffer
module _ (buffer : List ℕ) (at : ℕ) (bytes : List ℕ) (fits : at + length bytes ≤ length buffer) where
  there : put_at buffer at bytes ≡ (take at buffer ++ bytes) ++ drop (at + length bytes) buffer
  unfolding put_at fits_at
  there = rw (le-leb (at + length bytes) (length buffer) fits)

  long : length (take at buffer ++ bytes) ≡ at + length bytes
  long = length-append (take at buffer) bytes ∙ ap (λ (n : ℕ). n + length bytes) (length-take-le at buffer (omega arith))

  pub put_front : take (at + length bytes) (put_at buffer at bytes) ≡ take at buffer ++ bytes
  put_front = ap (take (at + length bytes)) there ∙ take_at (take at buffer ++ bytes) (drop (at + length bytes) buffer) (at + length bytes) long

  pub put-length : length (put_at buffer at bytes) ≡ length buffer
  put-length = ap length there ∙ length-append (take at buffer ++ bytes) (drop (at + length bytes) buffer) ∙ omega (arith, long, length-drop (at + length bytes) buffer)

-- what is handed back of bytes that do not fit, and of those that do
pub not-put : (buffer : List ℕ) (at : ℕ) (bytes : List ℕ) → length buffer < at + length bytes → (false ≡ fits_at buffer at bytes) × (buffer ≡ put_at buffer at bytes)
unfolding put_at fits_at
not-put buffer at bytes h = (sym (lt-leb (at + length bytes) (length buffer) h), rw (lt-leb (at + length bytes) (length buffer) h))

-- a line's contents are as many of its bytes as its length says, and there are
module _ (l : Line) (n : ℕ) (size : length l.bytes ≡ line_capacity) (e : n ≡ min l.len line_capacity) where
  pub contents-are : contents l ≡ take n l.bytes
  unfolding contents
  contents-are = go (dec_le l.len line_capacity)
    where
      go : Dec (l.len ≤ line_capacity) → contents l ≡ take n l.bytes
      go (yes h) = let same : l.len ≡ n = omega arith in ap (λ (k : ℕ). take k l.bytes) same
      go (no h) = take_all l.len l.bytes (omega arith) ∙ sym (take_all n l.bytes (omega arith))

  pub contents-length : length (contents l) ≡ n
  contents-length = ap length contents-are ∙ length-take-le n l.bytes (omega arith)

  pub contents-put :
      (buffer after : List ℕ) (at : ℕ) →
      at + n ≤ length buffer →
      after ≡ paste buffer at l.bytes n →
      (true ≡ fits_at buffer at (contents l)) × (after ≡ put_at buffer at (contents l))
  unfolding put_at fits_at
  contents-put buffer after at h p =
      rw (le-leb (at + length (contents l)) (length buffer) (omega (arith, contents-length)), contents-length, contents-are) (refl, p)

-- ---- along the loop that prints a sheet: the lines from `from` to before `index` wait in the first bytes of the
-- buffer
pub record Waiting (lines : List (List ℕ)) (room : ℕ) (buffer : List ℕ) (from bytes index : ℕ) : Type 0 where
  pub size : length buffer ≡ room
  pub within : bytes ≤ room
  pub some : index ≤ length lines
  pub between : Between lines from index (take bytes buffer)

module _ (lines : List (List ℕ)) (room : ℕ) (buffer : List ℕ) where
  -- none waits
  pub waiting_none : (index : ℕ) → length buffer ≡ room → index ≤ length lines → Waiting lines room buffer index 0 index
  waiting_none index e h = record { size = e; within = omega arith; some = h; between = between_none lines index }

  -- the next line is put behind those that wait
  pub waiting-more :
      (from bytes index : ℕ) (after line : List ℕ) →
      Waiting lines room buffer from bytes index →
      index < length lines →
      line ≡ line_at lines index →
      bytes + length line ≤ room →
      after ≡ put_at buffer bytes line →
      Waiting lines room after from (bytes + length line) (index + 1)
  waiting-more from bytes index after line w h e fits put =
      let room-there : bytes + length line ≤ length buffer = omega (arith, w.size) in
      record {
        size = ap length put ∙ put-length buffer bytes line room-there ∙ w.size;
        within = fits;
        some = omega arith;
        between =
            between_more lines from index (take bytes buffer) w.between h
            ∙ ap (λ (l : List ℕ). (take bytes buffer ++ l) ++ joined (drop (index + 1) lines)) (sym e)
            ∙ ap (λ (l : List ℕ). l ++ joined (drop (index + 1) lines)) (sym (ap (take (bytes + length line)) put ∙ put_front buffer bytes line room-there));
      }
