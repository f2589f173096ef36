-- `day_of` meets its contract: the search from date to date is the count of days.
use mathlib.Core.Bool.{true}
use mathlib.Core.Path.{◌≡◌, sym, ◌∙◌}
use borrow.Author.Tests.{le-leb, lt-leb}
use Rattle.civil.specs.Calendar.{date_exists}
use Rattle.civil.proofs.Dates.{real_of, placed}
use Rattle.civil.proofs.Laws.{by_count, counted}
use Rattle.civil.proofs.day_of.Goals as goal
use Rattle.civil.proofs.day_of.Goals.{Else-not-exists}

ok : (c : Else-not-exists) → date_exists c.args.date ≡ true
ok c = sym c.exists.ensures ∙ c.if-not-exists.false

pub returns-then-not-exists : goal.returns-then-not-exists
unfolding counted
returns-then-not-exists c = rw (by_count c.args.date, sym c.exists.ensures ∙ c.if-not-exists.true)

pub serial-serial-requires : goal.serial-serial-requires
serial-serial-requires c =
    let x = c.args.date in
    let f = (real_of x (ok (goal.at.serial-serial-requires c).Else-not-exists)).fits in
    (f.first, ((placed x f).small, f.to-twelve))

pub returns-then-number : goal.returns-then-number
unfolding counted
returns-then-number c = rw (by_count c.args.date, ok (goal.at.returns-then-number c).Else-not-exists, ← c.serial-serial.ensures, le-leb _ _ c.if-serial-ge-DAY_0_SERIAL.true, le-leb _ _ c.if-number.true)

pub returns-else-number : goal.returns-else-number
unfolding counted
returns-else-number c = rw (by_count c.args.date, ok (goal.at.returns-else-number c).Else-not-exists, ← c.serial-serial.ensures, le-leb _ _ c.if-serial-ge-DAY_0_SERIAL.true, lt-leb _ _ c.if-number.false)

pub returns-else-serial-ge-DAY_0_SERIAL : goal.returns-else-serial-ge-DAY_0_SERIAL
unfolding counted
returns-else-serial-ge-DAY_0_SERIAL c = rw (by_count c.args.date, ok (goal.at.returns-else-serial-ge-DAY_0_SERIAL c).Else-not-exists, ← c.serial-serial.ensures, lt-leb _ _ c.if-serial-ge-DAY_0_SERIAL.false)
