-- The lines of what was read by refusal and index, and how many there are; and of a file that is read: a line for each
-- day, as a month's sheet has it, and none is refused for want of room. Assumes nothing.
use mathlib.Core.List.{List, [], ◌∷◌, map}
use mathlib.Core.Path.{◌≡◌, refl, sym, ap, ◌∙◌, subst}
use Prim.Native.Nat.{ℕ, zero, suc, ◌+◌, ◌-◌, ◌≤◌, ◌<◌}
use native.Mathlib.Omega.{arith}
use lib.ListN.{length, length-map}
use borrow.Author.Tests.{le-leb, lt-leb}
use Rattle.std.specs.Prelude.{Result, Ok, Err}
use Rattle.days.specs.declared.refusal.Refusal.{Refusal}
use Rattle.days.specs.Refusals.{refusal_number}
use Rattle.days.specs.Days.{last_day, days_from}
use Rattle.almanac.specs.declared.Reading.{Reading}
use Rattle.almanac.specs.Reading.{count_in, first_in, reading_of}
use Rattle.almanac.proofs.Answers.{Whole, whole, days-fit, days-long}
use Rattle.month_sheet.specs.MonthSheets.{month_heading, record_bytes, record_line}
use Rattle.month_sheet.proofs.Fitting.{record-fits}
use Rattle.panchanga.specs.TrueLongitudes.{first_edition}
use Rattle.records.specs.Records.{record_on}
use Rattle.text.specs.declared.Line.{Line}
use Rattle.text.specs.Lines.{Holds, refusal_line}
use Rattle.text.specs.Sheets.{line_at}
use Rattle.text.proofs.Holding.{whole-line}
use Rattle.text.proofs.Sheets.{line_first, line-next, line-behind}
use Rattle.almanac_sheet.specs.AlmanacSheets.{day_line, days_lines, reading_lines}

-- a line that holds what is meant
pub meant : {l : Line} {bs cs : List ℕ} → cs ≡ bs → Holds l bs → Holds l cs
meant {l} {bs} {cs} e h = subst (Holds l) (sym e) h

-- ---- the line of a day
pub no-day : (n : ℕ) → last_day < n → day_line n ≡ []
unfolding day_line
no-day n h = rw (lt-leb n last_day h)

pub a-day : (n : ℕ) → n ≤ last_day → day_line n ≡ record_line (record_on first_edition n)
unfolding day_line
a-day n h = rw (le-leb n last_day h)

days-at : (first count k : ℕ) → k < count → line_at (map day_line (days_from first count)) k ≡ day_line (first + k)
unfolding days_from
days-at first zero k h = absurd (omega arith)
days-at first (suc n) zero h = let here : first + 0 ≡ first = omega arith in rw here (line_first _ _)
days-at first (suc n) (suc k) h =
    let next : suc first + k ≡ first + suc k = omega arith in
    line-next _ _ k ∙ days-at (suc first) n k (omega arith) ∙ ap day_line next

-- ---- the lines of what was read, how many there are, and which line is meant
module _ (q : Refusal) where
  refused-lines : reading_lines (Err q) ≡ refusal_line (refusal_number q) ∷ []
  unfolding reading_lines
  refused-lines = refl

  pub one-refused : 1 ≡ length (reading_lines (Err q))
  one-refused = rw refused-lines

  module _ (k : ℕ) where
    pub first-refused : k ≡ 0 → line_at (reading_lines (Err q)) k ≡ refusal_line (refusal_number q)
    first-refused z = rw (refused-lines, z) (line_first _ _)

    pub rest-refused : (k ≡ 0 → ⊥) → line_at (reading_lines (Err q)) k ≡ []
    rest-refused h = rw refused-lines (line-behind _ k (omega arith))

pub lines-read : (r : Reading) → reading_lines (Ok r) ≡ days_lines r
unfolding reading_lines
lines-read r = refl

module _ (r : Reading) where
  day-lines : days_lines r ≡ month_heading ∷ map day_line (days_from r.first r.count)
  unfolding days_lines
  day-lines = refl

  heading-and-days : 1 + r.count ≡ length (days_lines r)
  heading-and-days = rw day-lines (omega (arith, length-map (days_from r.first r.count) day_line, days-long r.first r.count))

  pub counted : 1 + r.count ≡ length (reading_lines (Ok r))
  counted = rw (lines-read r) heading-and-days

  module _ (k : ℕ) where
    pub first-is-heading : k ≡ 0 → line_at (days_lines r) k ≡ month_heading
    first-is-heading z = rw (day-lines, z) (line_first _ _)

    pub none-behind : r.count < k → line_at (days_lines r) k ≡ []
    none-behind h = line-behind (days_lines r) k (omega (arith, heading-and-days))

pub line-of-day : (r : Reading) (k : ℕ) → (k ≡ 0 → ⊥) → k ≤ r.count → line_at (days_lines r) k ≡ day_line (r.first + (k - 1))
line-of-day r zero n h = absurd (n refl)
line-of-day r (suc k) n h =
    let back : suc k - 1 ≡ k = omega arith in
    rw (day-lines r, back) (line-next _ _ k ∙ days-at r.first r.count k (omega arith))

-- OF A FILE THAT IS READ each of its days has its line, whole
pub file-line : (f : List ℕ) (k : ℕ) {r : Reading} → Ok r ≡ reading_of f → k < count_in f → line_at (reading_lines (reading_of f)) (suc k) ≡ record_bytes (record_on first_edition (first_in f + k))
unfolding record_line
file-line f k e h =
    let w : Whole f = whole f e in
    let back : suc k - 1 ≡ k = omega arith in
    let day : first_in f + k ≤ last_day = omega (arith, days-fit f w) in
    let read : Reading = record { first = first_in f; count = count_in f } in
    ap (λ (r : Result Reading Refusal). line_at (reading_lines r) (suc k)) w.days-are
    ∙ ap (λ (ls : List (List ℕ)). line_at ls (suc k)) (lines-read read)
    ∙ line-of-day read (suc k) (λ z. omega arith) (omega arith)
    ∙ ap (λ (j : ℕ). day_line (first_in f + j)) back
    ∙ a-day (first_in f + k) day
    ∙ whole-line _ (record-fits first_edition (first_in f + k) day)
