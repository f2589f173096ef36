-- Laws of putting bytes on a line: one after another is all at once, the line's room stays as it is, and what fits is
-- all there. Assumes nothing.
use Prim.Native.Nat.{ℕ, ◌+◌, ◌≤◌, ◌<◌}
use mathlib.Core.Path.{◌≡◌, refl, ap, sym, ◌∙◌}
use mathlib.Core.Bool.{Bool, true, false}
use mathlib.Core.List.{List, [], ◌∷◌, ◌++◌, foldl-append, append_assoc, append-nil}
use native.Mathlib.Omega.{arith}
use native.Mathlib.Numerals.{add-one}
use lib.Dec.{ltb}
use lib.ListN.{length, take, drop, set, length-set, take-append-drop}
use lib.Seq.{length-take-le, take-suc-set}
use borrow.Author.Tests.{ltb-true, ltb-false, lt-ltb, le-ltb}
use Rattle.text.specs.declared.Line.{Line}
use Rattle.text.specs.Lines.{line_capacity, empty_line, contents, with_byte, with_bytes}

-- the line l with b put where its contents end
abbrev pub stored : Line → ℕ → Line
stored l b = record { bytes = set l.bytes l.len b; len = l.len + 1 }

pub with-byte-fits : (l : Line) (b : ℕ) → l.len < line_capacity → with_byte l b ≡ stored l b
unfolding with_byte
with-byte-fits l b h = rw (lt-ltb l.len line_capacity h)

pub with-byte-full : (l : Line) (b : ℕ) → line_capacity ≤ l.len → with_byte l b ≡ l
unfolding with_byte
with-byte-full l b h = rw (le-ltb l.len line_capacity h)

-- a byte is a list of one
pub with-byte-is : (l : Line) (b : ℕ) → with_byte l b ≡ with_bytes l (b ∷ [])
unfolding with_bytes
with-byte-is l b = refl

pub with-bytes-none : (l : Line) → with_bytes l [] ≡ l
unfolding with_bytes
with-bytes-none l = refl

pub with-bytes-more : (l : Line) (b : ℕ) (bs : List ℕ) → with_bytes l (b ∷ bs) ≡ with_bytes (with_byte l b) bs
unfolding with_bytes
with-bytes-more l b bs = refl

-- twice is once with both
pub with-bytes-append : (l : Line) (xs ys : List ℕ) → with_bytes (with_bytes l xs) ys ≡ with_bytes l (xs ++ ys)
unfolding with_bytes
with-bytes-append l xs ys = sym (foldl-append with_byte l xs ys)

-- what a line keeps, whatever is put: the length of its array, and contents within its room
pub record Kept (l m : Line) : Type 0 where
  pub size : length m.bytes ≡ length l.bytes
  pub within : l.len ≤ line_capacity → m.len ≤ line_capacity

byte-kept : (l : Line) (b : ℕ) → Kept l (with_byte l b)
byte-kept l b = go (ltb l.len line_capacity) refl
  where
    go : (t : Bool) → ltb l.len line_capacity ≡ t → Kept l (with_byte l b)
    go true e =
        let h = ltb-true l.len line_capacity e in
        rw (with-byte-fits l b h) (record { size = length-set l.bytes l.len b; within = λ _. omega arith })
    go false e = rw (with-byte-full l b (ltb-false l.len line_capacity e)) (record { size = refl; within = λ h. h })

pub bytes-kept : (bs : List ℕ) (l : Line) → Kept l (with_bytes l bs)
bytes-kept [] l = rw (with-bytes-none l) (record { size = refl; within = λ h. h })
bytes-kept (b ∷ bs) l =
    let one = byte-kept l b in
    let rest = bytes-kept bs (with_byte l b) in
    rw (with-bytes-more l b bs) (record { size = rest.size ∙ one.size; within = λ h. rest.within (one.within h) })

-- the line m is the line l with all of bs after its contents
pub record Put (l : Line) (bs : List ℕ) (m : Line) : Type 0 where
  pub whole : contents m ≡ contents l ++ bs
  pub long : m.len ≡ l.len + length bs

put_byte : (l : Line) (b : ℕ) → length l.bytes ≡ line_capacity → l.len < line_capacity → Put l (b ∷ []) (with_byte l b)
unfolding contents
put_byte l b full h =
    rw (with-byte-fits l b h)
    (record { whole = rw add-one (take-suc-set l.bytes l.len b (omega arith)); long = omega arith })

-- what fits is put whole
pub put-bytes :
    (bs : List ℕ) (l : Line) →
    length l.bytes ≡ line_capacity →
    l.len + length bs ≤ line_capacity →
    Put l bs (with_bytes l bs)
put-bytes [] l full h =
    rw (with-bytes-none l) (record { whole = sym (append-nil (contents l)); long = omega arith })
put-bytes (b ∷ bs) l full h =
    let one = put_byte l b full (omega arith) in
    let rest = put-bytes bs (with_byte l b) ((byte-kept l b).size ∙ full) (omega arith) in
    rw (with-bytes-more l b bs)
    (record {
      whole = rest.whole ∙ rw one.whole (append_assoc (contents l) (b ∷ []) bs);
      long = omega arith;
    })

-- a line made from the empty one has just what was put
pub put_all :
    (bs : List ℕ) →
    length bs ≤ line_capacity →
    (contents (with_bytes empty_line bs) ≡ bs) × ((with_bytes empty_line bs).len ≡ length bs)
unfolding contents
put_all bs h = let p = put-bytes bs empty_line refl (omega arith) in (p.whole, omega arith)

-- a full line stays as it was, whatever is put
pub full-stays : (bs : List ℕ) (l : Line) → line_capacity ≤ l.len → with_bytes l bs ≡ l
full-stays [] l h = with-bytes-none l
full-stays (b ∷ bs) l h = with-bytes-more l b bs ∙ rw (with-byte-full l b h) (full-stays bs l h)

-- as many bytes as a line has room for fill it
pub put_full : (bs : List ℕ) → line_capacity ≤ length bs → (with_bytes empty_line bs).len ≡ line_capacity
put_full bs h =
    let front = (put_all (take line_capacity bs) (omega (arith, length-take-le line_capacity bs h))).1 ∙ length-take-le line_capacity bs h in
    let filled = full-stays (drop line_capacity bs) (with_bytes empty_line (take line_capacity bs)) (omega arith) in
    let split = with-bytes-append empty_line (take line_capacity bs) (drop line_capacity bs) ∙ ap (with_bytes empty_line) (take-append-drop line_capacity bs) in
    ap (λ (l : Line). l.len) (sym split ∙ filled) ∙ front
