-- What only contracts of private functions speak of: the days whose tithis are reckoned, and the numbers of the month
-- starts found among them.
-- Assumes nothing.
use Rattle.std.specs.Prelude.{true, cond, ◌&&◌, List, ◌≡◌, ℕ, ◌+◌, ◌≤◌, ltb, leb, eqb, length, Result, Ok, Err}
use Rattle.days.specs.Days.{last_day}
use Rattle.days.specs.declared.refusal.Refusal.{Refusal}
use Rattle.days.specs.declared.refusal.Refusal.TheVariants.{OutOfRange, BadEdition}
use Rattle.panchanga.specs.TrueLongitudes.{is_edition}
use Rattle.lunar_months.specs.declared.Added.{Added}
use Rattle.lunar_months.specs.declared.Months.{Months}
use Rattle.lunar_months.specs.declared.MonthRefusal.{MonthRefusal}
use Rattle.lunar_months.specs.declared.MonthRefusal.TheVariants.{Refused, TooShort}
use Rattle.lunar_months.specs.MonthStarts.{latest_or}
use Rattle.lunar_months.specs.Rows.{is_covered}

-- whether a row may be extended by n days
unfoldable pub check_extension : Months → ℕ → Result (Unit {0}) Refusal
check_extension row n =
    cond (is_edition row.edition) (cond (is_covered row.covered && leb (row.covered + n) (last_day + 1)) (Ok tt) (Err OutOfRange)) (Err BadEdition)

-- what is told behind such a test
abbrev pub behind : {A : Type 0} → Result (Unit {0}) Refusal → Result A MonthRefusal → Result A MonthRefusal
behind (Ok _) answer = answer
behind (Err r) answer = Err (Refused r)

-- whether an extension is refused before its month starts are known
unfoldable pub before_extension : Months → ℕ → ℕ → Result (Unit {0}) MonthRefusal
before_extension row n room = behind (check_extension row n) (cond (leb row.starts room) (Ok tt) (Err (TooShort row.starts)))

-- whether a row may be asked for the month of a day
unfoldable pub check_question : Months → ℕ → ℕ → Result (Unit {0}) Refusal
check_question row e day =
    cond (is_edition e && eqb e row.edition) (cond (is_covered row.covered && ltb day row.covered) (Ok tt) (Err OutOfRange)) (Err BadEdition)

-- n days behind the covered ones, of which day 0 is one, in an edition
pub record Reckonable (e covered n : ℕ) : Type 0 where
  pub edition : is_edition e ≡ true
  pub some : 1 ≤ covered
  pub within : covered + n ≤ last_day + 1

pub record Counted (starts : List ℕ) (added : Added) : Type 0 where
  pub count : added.count ≡ length starts
  pub latest : added.latest ≡ latest_or 0 starts
