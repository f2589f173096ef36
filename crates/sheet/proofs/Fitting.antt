-- What is printed fits a line: the heading has 62 bytes, and each number is below a power of ten. Assumes nothing.
use Prim.Native.Nat.{ℕ, ◌%◌, ◌≤◌}
use native.Mathlib.Omega.{arith}
use lib.ListN.{length, length-append}
use Rattle.days.specs.Days.{last_day, pair_at}
use Rattle.panchanga.specs.TrueLongitudes.{first_edition}
use Rattle.panchanga.specs.OnDays.{true_sun_at, true_moon_at, tithi_at, nakshatra_at, yoga_at, karana_at}
use Rattle.panchanga.proofs.Bounds.{sun-small, moon-small, tithi-small, nakshatra-small, yoga-small, karana-range}
use Rattle.text.specs.Lines.{line_capacity, spaced}
use Rattle.text.proofs.Printing.{digits-length}
use Rattle.sheet.specs.Sheets.{sheet_heading, columns, two_lines}

pub two-lines-fit : (n : ℕ) → n ≤ last_day → length (two_lines n) ≤ line_capacity
unfolding two_lines sheet_heading spaced columns
two-lines-fit n h =
    let d = pair_at n in
    let number = digits-length 5 n (omega arith) in
    let cycle = digits-length 1 d.cycle (omega arith) in
    let within = digits-length 3 d.within (omega arith) in
    let weekday = digits-length 0 (n % 7) (omega arith) in
    let sun = digits-length 6 (true_sun_at d) (omega (arith, sun-small d)) in
    let moon = digits-length 6 (true_moon_at first_edition d) (omega (arith, moon-small first_edition d)) in
    let tithi = digits-length 1 (tithi_at first_edition d) (omega (arith, tithi-small first_edition d)) in
    let nakshatra = digits-length 1 (nakshatra_at first_edition d) (omega (arith, nakshatra-small first_edition d)) in
    let yoga = digits-length 1 (yoga_at first_edition d) (omega (arith, yoga-small first_edition d)) in
    let karana = digits-length 1 (karana_at first_edition d) (omega (arith, karana-range first_edition d)) in
    simp length-append (omega arith)
