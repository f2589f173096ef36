-- What is printed for an input fits: its month's records are of days, whose numbers have few digits. So none of its
-- lines is refused. Assumes nothing.
use mathlib.Core.List.{List}
use mathlib.Core.Path.{◌≡◌, sym, ap, ◌∙◌}
use Prim.Native.Nat.{ℕ, suc, ◌+◌, ◌-◌, ◌%◌, ◌≤◌, ◌<◌}
use native.Mathlib.Omega.{arith}
use lib.ListN.{length, get_or, length-append}
use Rattle.days.specs.declared.Day.{Day}
use Rattle.std.specs.Prelude.{Result, Ok, Err}
use Rattle.days.specs.declared.refusal.Refusal.{Refusal}
use Rattle.days.specs.Refusals.{number_or_zero}
use Rattle.days.specs.Days.{last_day, pair_at}
use Rattle.longitudes.specs.Longitudes.{table, longitude_at, longitudes_at}
use Rattle.longitudes.proofs.Table.{longitude-small}
use Rattle.panchanga.specs.TrueLongitudes.{first_edition}
use Rattle.panchanga.specs.OnDays.{true_sun_at, true_moon_at, tithi_at, nakshatra_at, yoga_at, karana_at}
use Rattle.panchanga.proofs.Bounds.{sun-small, moon-small, tithi-small, nakshatra-small, yoga-small, karana-range}
use Rattle.records.specs.declared.DayRecord.{DayRecord}
use Rattle.records.specs.Records.{record_on}
use Rattle.records.proofs.Laws.{month-long, month-days, month-record}
use Rattle.text.specs.Lines.{line_capacity, spaced}
use Rattle.text.specs.Inputs.{day_input}
use Rattle.text.specs.Sheets.{line_at}
use Rattle.text.proofs.Holding.{whole-line}
use Rattle.text.proofs.Printing.{digits-length}
use Rattle.month_sheet.specs.MonthSheets.{record_bytes, record_line, month_lines, month_from, month_lines_for, month_read}
use Rattle.month_sheet.proofs.Lines.{behind, line-of-record}

-- a number below a circle takes a space and seven digits
nine-fit : (d : Day) → length (spaced (longitudes_at d)) ≤ 72
unfolding longitudes_at longitude_at table spaced
nine-fit d =
    let b₀ = digits-length 6 (longitude_at 0 d) (omega (arith, longitude-small 0 d)) in
    let b₁ = digits-length 6 (longitude_at 1 d) (omega (arith, longitude-small 1 d)) in
    let b₂ = digits-length 6 (longitude_at 2 d) (omega (arith, longitude-small 2 d)) in
    let b₃ = digits-length 6 (longitude_at 3 d) (omega (arith, longitude-small 3 d)) in
    let b₄ = digits-length 6 (longitude_at 4 d) (omega (arith, longitude-small 4 d)) in
    let b₅ = digits-length 6 (longitude_at 5 d) (omega (arith, longitude-small 5 d)) in
    let b₆ = digits-length 6 (longitude_at 6 d) (omega (arith, longitude-small 6 d)) in
    let b₇ = digits-length 6 (longitude_at 7 d) (omega (arith, longitude-small 7 d)) in
    let b₈ = digits-length 6 (longitude_at 8 d) (omega (arith, longitude-small 8 d)) in
    simp length-append (omega arith)

-- a day's record fits a line
pub record-fits : (e n : ℕ) → n ≤ last_day → length (record_bytes (record_on e n)) ≤ line_capacity
unfolding record_bytes record_on spaced
record-fits e n h =
    let d = pair_at n in
    let day = digits-length 5 n (omega arith) in
    let weekday = digits-length 0 (n % 7) (omega arith) in
    let means = nine-fit d in
    let sun = digits-length 6 (true_sun_at d) (omega (arith, sun-small d)) in
    let moon = digits-length 6 (true_moon_at e d) (omega (arith, moon-small e d)) in
    let tithi = digits-length 1 (tithi_at e d) (omega (arith, tithi-small e d)) in
    let nakshatra = digits-length 1 (nakshatra_at e d) (omega (arith, nakshatra-small e d)) in
    let yoga = digits-length 1 (yoga_at e d) (omega (arith, yoga-small e d)) in
    let karana = digits-length 1 (karana_at e d) (omega (arith, karana-range e d)) in
    simp length-append (omega arith)

-- each line of the month that an input asks for is its record's, whole
pub lines-whole :
    (s : List ℕ) (k : ℕ) {m : List DayRecord} →
    Ok m ≡ month_read s →
    k < 30 →
    line_at (month_lines_for s) (suc k) ≡ record_bytes (record_on first_edition (number_or_zero (day_input s) + k))
unfolding record_line number_or_zero
lines-whole s k {m} g h = go (day_input s) g
  where
    go : (read : Result ℕ Refusal) → Ok m ≡ month_from read → line_at (month_lines (month_from read)) (suc k) ≡ record_bytes (record_on first_edition (number_or_zero read + k))
    go (Err r) g = absurd cc
    go (Ok n) g =
        let back : suc k - 1 ≡ k = omega arith in
        ap (λ (a : Result (List DayRecord) Refusal). line_at (month_lines a) (suc k)) (sym g)
        ∙ line-of-record m (suc k) (month-long first_edition n g) (λ z. omega arith) (omega arith)
        ∙ ap (λ (i : ℕ). record_line (get_or m i behind)) back
        ∙ ap record_line (month-record first_edition n g k behind h)
        ∙ whole-line _ (record-fits first_edition (n + k) (omega (arith, month-days first_edition n g)))
