-- A line holds the bytes that it was made from where they fit, and then its contents can be lent; one that is ended
-- holds all of them or the refusal. Assumes nothing.
use mathlib.Core.Path.{◌≡◌, refl, ap, sym, ◌∙◌}
use mathlib.Core.List.{List, [], ◌∷◌, ◌++◌}
use Prim.Native.Nat.{ℕ, ◌≤◌, ◌<◌}
use native.Mathlib.Decide.{dec_le}
use native.Mathlib.Omega.{arith}
use borrow.Author.Tests.{le-leb, lt-leb, lt-ltb, le-ltb}
use lib.ListN.{length, length-append, length-take}
use Rattle.days.specs.Refusals.{list_too_short}
use Rattle.text.specs.declared.Line.{Line}
use Rattle.text.specs.Lines.{newline, line_capacity, empty_line, contents, with_bytes, Holds, refusal_line, whole_line, ended}
use Rattle.text.proofs.Lines.{with-byte-is, with-bytes-none, with-bytes-append, bytes-kept, put_all, put_full}
use Rattle.text.proofs.Printing.{digits-length}

pub holds : (l : Line) (bs : List ℕ) → length bs ≤ line_capacity → l ≡ with_bytes empty_line bs → Holds l bs
holds l bs fits made = record { made = made; whole = ap contents made ∙ (put_all bs fits).0 }

-- so that its contents can be lent
pub holds-within : {l : Line} {bs : List ℕ} → Holds l bs → l.len ≤ length l.bytes
holds-within {l} {bs} h = let kept = bytes-kept bs empty_line in rw h.made (omega (arith, kept.within (omega arith)))

-- and that they are as long as what it holds
pub holds-length : {l : Line} {bs : List ℕ} → Holds l bs → l.len ≡ length bs
unfolding contents
holds-length {l} {bs} h = omega (arith, holds-within h, ap length h.whole, length-take l.len l.bytes)

pub holds-room : {l : Line} {bs : List ℕ} → Holds l bs → (length l.bytes ≡ line_capacity) × (l.len ≤ line_capacity)
holds-room {l} {bs} h = let kept = bytes-kept bs empty_line in rw h.made (kept.size, kept.within (omega arith))

-- an empty line holds nothing
pub nothing-held : (l : Line) → l ≡ empty_line → Holds l []
nothing-held l e = holds l [] (omega arith) (e ∙ sym (with-bytes-none empty_line))

pub refusal-fits : (refusal : ℕ) → refusal < 4294967296 → length (refusal_line refusal) ≤ line_capacity
unfolding refusal_line
refusal-fits refusal h = simp length-append (omega (arith, digits-length 9 refusal (omega arith)))

-- a line of few bytes is whole
pub whole-line : (bs : List ℕ) → length bs ≤ line_capacity → whole_line bs ≡ bs
unfolding whole_line
whole-line bs h = rw (le-leb (length bs) line_capacity h)

-- what is ended is whole or refused
pub ended-holds : (l : Line) (bs : List ℕ) → l ≡ with_bytes empty_line bs → Holds (ended l) (whole_line (bs ++ (newline ∷ [])))
unfolding ended whole_line
ended-holds l bs e = rw e (go (dec_le line_capacity (length bs)))
  where
    line : Line
    line = with_bytes empty_line bs

    go : Dec (line_capacity ≤ length bs) → Holds (ended line) (whole_line (bs ++ (newline ∷ [])))
    go (yes h) =
        let full = put_full bs h in
        rw (le-ltb line.len line_capacity (omega arith), lt-leb (length (bs ++ (newline ∷ []))) line_capacity (simp length-append (omega arith)))
        (holds _ _ (refusal-fits list_too_short (omega arith)) refl)
    go (no h) =
        let long = (put_all bs (omega arith)).1 in
        let short : length (bs ++ (newline ∷ [])) ≤ line_capacity = simp length-append (omega arith) in
        rw (lt-ltb line.len line_capacity (omega arith), le-leb (length (bs ++ (newline ∷ []))) line_capacity short)
        (holds _ _ short (with-byte-is line newline ∙ with-bytes-append empty_line bs (newline ∷ [])))
