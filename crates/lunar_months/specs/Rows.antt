-- A row of month starts in a lent list: made, extended, and asked for the month of a day. A row is taken at its word,
-- whatever its numbers and its list hold.
-- Assumes nothing.
use Rattle.std.specs.Prelude.{Bool, cond, ◌&&◌, List, ℕ, zero, suc, ◌+◌, ltb, leb, eqb, length, Option, None, Result, Ok, Err}
use Rattle.std.specs.Result.{is_ok}
use Rattle.days.specs.Days.{last_day}
use Rattle.days.specs.declared.refusal.Refusal.{Refusal}
use Rattle.days.specs.declared.refusal.Refusal.TheVariants.{OutOfRange, BadEdition}
use Rattle.entries.specs.Entries.{capacity, entry_day, with_entries_from}
use Rattle.panchanga.specs.TrueLongitudes.{is_edition}
use Rattle.lunar_months.specs.declared.Months.{Months}
use Rattle.lunar_months.specs.declared.MonthStart.{MonthStart}
use Rattle.lunar_months.specs.declared.MonthRefusal.{MonthRefusal}
use Rattle.lunar_months.specs.declared.MonthRefusal.TheVariants.{Refused, TooShort}
use Rattle.lunar_months.specs.MonthStarts.{month_starts, start_on}

abbrev pub the_row : ℕ → ℕ → ℕ → Months
the_row edition starts covered = record { edition = edition; starts = starts; covered = covered }

-- A NEW ROW covers day 0 and has no month start; 14 for another edition
unfoldable pub new_row : ℕ → Result Months Refusal
new_row e = cond (is_edition e) (Ok (the_row e 0 1)) (Err BadEdition)

-- a number of covered days: day 0 at least, and no more than there are
unfoldable pub is_covered : ℕ → Bool
is_covered covered = leb 1 covered && leb covered (last_day + 1)

-- the month starts of the n days behind those that a row covers, in the row's edition
abbrev pub starts_behind : Months → ℕ → List ℕ
starts_behind row n = month_starts row.edition row.covered n

-- the row with n days more, refused with 7 where its month starts are more than so many entries: the stored number if
-- that alone is too many, and else the extended row's
unfoldable pub with_days : Months → ℕ → ℕ → Result Months MonthRefusal
with_days row n room =
    let starts = row.starts + length (starts_behind row n) in
    cond (leb row.starts room)
    (cond (leb starts room) (Ok (the_row row.edition starts (row.covered + n))) (Err (TooShort starts)))
    (Err (TooShort row.starts))

-- THE ROW AFTER n DAYS MORE, for a list of so many entries: 14 for an edition that is none, then 2 for a covered number
-- out of range or a day past the last, then 7
unfoldable pub extended_by : Months → ℕ → ℕ → Result Months MonthRefusal
extended_by row n room =
    cond (is_edition row.edition)
    (cond (is_covered row.covered && leb (row.covered + n) (last_day + 1)) (with_days row n room) (Err (Refused OutOfRange)))
    (Err (Refused BadEdition))

-- THE LIST AFTERWARDS: the new month starts stand behind the row's own, and all else is as it was; by any refusal the
-- whole list
unfoldable pub list_after : Months → ℕ → List ℕ → List ℕ
list_after row n list = cond (is_ok (extended_by row n (capacity list))) (with_entries_from list row.starts (starts_behind row n)) list

-- of the first k entries the last by place that is not after the day, and that place from 1; or that there is none
unfoldable pub last_entry : List ℕ → ℕ → ℕ → Option MonthStart
last_entry list day zero = None
last_entry list day (suc k) = cond (leb (entry_day list k) day) (start_on (entry_day list k) (suc k)) (last_entry list day k)

-- THE MONTH OF A DAY BY A ROW: 14 for an edition that is none or not the row's, then 2 for a covered number out of
-- range or a day not covered, then 7 where the list has fewer entries than the row says
unfoldable pub month_at : Months → List ℕ → ℕ → ℕ → Result (Option MonthStart) MonthRefusal
month_at row list edition day =
    cond (is_edition edition && eqb edition row.edition)
    (cond (is_covered row.covered && ltb day row.covered)
    (cond (leb row.starts (capacity list)) (Ok (last_entry list day row.starts)) (Err (TooShort row.starts)))
    (Err (Refused OutOfRange)))
    (Err (Refused BadEdition))
