-- A line is put together from its parts and fits: a name has at most seven bytes, a number of 64 bits twenty digits,
-- and a day with its date is short. Assumes nothing.
use mathlib.Core.List.{List, [], ◌∷◌, ◌++◌, append_assoc}
use mathlib.Core.Path.{◌≡◌}
use Prim.Native.Nat.{ℕ, ◌≤◌, ◌<◌}
use native.Mathlib.Decide.{dec_le}
use native.Mathlib.Omega.{arith}
use lib.ListN.{length, length-append}
use borrow.Author.Tests.{lt-leb}
use Rattle.civil.specs.Answers.{date_of_day}
use Rattle.dated.specs.Dated.{date_bytes, day_bytes}
use Rattle.dated.proofs.Laws.{day-short}
use Rattle.days.specs.Days.{last_day}
use Rattle.text.specs.declared.Line.{Line}
use Rattle.text.specs.Decimal.{digits_within, digits_of}
use Rattle.text.specs.Lines.{space, newline, line_capacity, with_byte, with_bytes}
use Rattle.text.proofs.Lines.{with-byte-is, with-bytes-append}
use Rattle.text.proofs.Printing.{digits-length}
use Rattle.words.specs.Names.{body_names}
use Rattle.words.specs.Words.{name_at}
use Rattle.words.proofs.Names.{body-name-short}
use Rattle.drift_sheet.specs.DriftSheets.{drift_heading, drift_line}

pub heading-fits : length drift_heading ≤ line_capacity
unfolding drift_heading
heading-fits = omega arith

-- a number that is no day's is followed by 0-0-0
no-day-short : (n : ℕ) → last_day < n → n < 4294967296 → length (day_bytes n) ≤ 19
unfolding day_bytes date_bytes date_of_day digits_of digits_within
no-day-short n h k = let number = digits-length 9 n (omega arith) in rw (lt-leb n last_day h) (simp length-append (omega arith))

any-day-short : (n : ℕ) → n < 4294967296 → length (day_bytes n) ≤ 19
any-day-short n h = go (dec_le n last_day)
  where
    go : Dec (n ≤ last_day) → length (day_bytes n) ≤ 19
    go (yes l) = day-short n l
    go (no l) = no-day-short n (omega arith) h

pub body-line-fits : (b n d day : ℕ) → n < 18446744073709551616 → d < 18446744073709551616 → day < 4294967296 → length (drift_line b n d day) ≤ line_capacity
unfolding drift_line
body-line-fits b n d day hn hd h =
    let name = body-name-short b in
    let numerator = digits-length 19 n (omega arith) in
    let divisor = digits-length 19 d (omega arith) in
    let dated = any-day-short day h in
    simp length-append (omega arith)

pub body-line-made :
    (l : Line) (b n d day : ℕ) {name : List ℕ} →
    name ≡ name_at body_names b →
    with_byte (with_bytes (with_byte (with_bytes (with_byte (with_bytes (with_byte (with_bytes l name) space) (digits_of n)) space) (digits_of d)) space) (day_bytes day)) newline
    ≡ with_bytes l (drift_line b n d day)
unfolding drift_line
body-line-made l b n d day e = rw e (together l (name_at body_names b) (digits_of n) (digits_of d) (day_bytes day))
  where
    together :
        (l : Line) (name n d day : List ℕ) →
        with_byte (with_bytes (with_byte (with_bytes (with_byte (with_bytes (with_byte (with_bytes l name) space) n) space) d) space) day) newline
        ≡ with_bytes l (name ++ (space ∷ (n ++ (space ∷ (d ++ (space ∷ (day ++ (newline ∷ []))))))))
    together l name n d day = simp (with-byte-is, with-bytes-append, append_assoc)
