-- What is printed is put together from its parts and fits a line: the longest name has seven bytes, and each number few
-- digits. Assumes nothing.
use mathlib.Core.List.{List, [], ◌∷◌, ◌++◌, append_assoc}
use mathlib.Core.Path.{◌≡◌}
use Prim.Native.Nat.{ℕ, ◌/◌, ◌%◌, ◌≤◌, ◌<◌}
use native.Mathlib.Omega.{arith}
use lib.ListN.{length, length-append}
use Rattle.text.specs.declared.Line.{Line}
use Rattle.text.specs.Lines.{newline, line_capacity, with_byte, with_bytes, spaced}
use Rattle.text.proofs.Lines.{with-byte-is, with-bytes-append}
use Rattle.text.proofs.Printing.{digits-length}
use Rattle.words.specs.Names.{body_names}
use Rattle.words.specs.Words.{name_at}
use Rattle.words.proofs.Names.{body-name-short}
use Rattle.plate.specs.Plates.{plate_heading, sexagesimal, body_line}

pub heading-fits : length plate_heading ≤ line_capacity
unfolding plate_heading
heading-fits = omega arith

pub body-line-fits : (b seconds thirds : ℕ) → seconds < 1296000 → thirds < 60 → length (body_line b seconds thirds) ≤ line_capacity
unfolding body_line spaced
body-line-fits b seconds thirds h k =
    let name = body-name-short b in
    let degrees = digits-length 2 (seconds / 3600) (omega arith) in
    let minutes = digits-length 1 (seconds / 60 % 60) (omega arith) in
    let rest = digits-length 1 (seconds % 60) (omega arith) in
    let third = digits-length 1 thirds (omega arith) in
    simp length-append (omega arith)

pub body-line-made : (l : Line) (b seconds thirds : ℕ) {name : List ℕ} → name ≡ name_at body_names b → with_byte (with_bytes (with_bytes l name) (spaced (sexagesimal seconds thirds))) newline ≡ with_bytes l (body_line b seconds thirds)
unfolding body_line
body-line-made l b seconds thirds e = rw e (together l (name_at body_names b) (spaced (sexagesimal seconds thirds)))
  where
    together : (l : Line) (name numbers : List ℕ) → with_byte (with_bytes (with_bytes l name) numbers) newline ≡ with_bytes l (name ++ (numbers ++ (newline ∷ [])))
    together l name numbers = simp (with-byte-is, with-bytes-append, append_assoc)
