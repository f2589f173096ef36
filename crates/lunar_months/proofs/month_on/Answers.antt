-- `month_on` meets its contract: refused, or what is found among the days behind day 0.
use borrow.Author.Tests.{le-leb, lt-leb}
use mathlib.Core.Path.{◌≡◌, sym, ap, ◌∙◌}
use Rattle.std.specs.Prelude.{Ok}
use mathlib.Core.Bool.{true}
use native.Mathlib.Omega.{arith}
use Rattle.panchanga.specs.TrueLongitudes.{is_edition}
use Rattle.lunar_months.specs.MonthStarts.{month_on}
use Rattle.lunar_months.proofs.Latest.{from-epoch, latest-none, latest-start}
use Rattle.lunar_months.proofs.month_on.Goals as goal
use Rattle.lunar_months.proofs.month_on.Goals.{Else-not-is_edition}

edition : (c : Else-not-is_edition) → is_edition c.args.edition ≡ true
edition c = sym c.is_edition.ensures ∙ c.if-not-is_edition.false

pub returns-then-not-is_edition : goal.returns-then-not-is_edition
unfolding month_on
returns-then-not-is_edition c = rw (sym c.is_edition.ensures ∙ c.if-not-is_edition.true)

pub returns-then-day-gt-LAST : goal.returns-then-day-gt-LAST
unfolding month_on
returns-then-day-gt-LAST c = rw (edition (goal.at.returns-then-day-gt-LAST c).Else-not-is_edition, lt-leb _ _ c.if-day-gt-LAST.true)

pub find_starts-found-requires : goal.find_starts-found-requires
find_starts-found-requires c = record { edition = edition (goal.at.find_starts-found-requires c).Else-not-is_edition; some = omega arith; within = omega (arith, c.if-day-gt-LAST.false) }

pub returns-then-found-eq0 : goal.returns-then-found-eq0
unfolding month_on
returns-then-found-eq0 c = rw (edition (goal.at.returns-then-found-eq0 c).Else-not-is_edition, le-leb _ _ c.if-day-gt-LAST.false, from-epoch) (ap Ok (sym (latest-none _ _ c.find_starts-found.ensures c.if-found-eq0.true)))

pub returns : goal.returns
unfolding month_on
returns c = rw (edition (goal.at.returns c).Else-not-is_edition, le-leb _ _ c.if-day-gt-LAST.false, from-epoch) (ap Ok (sym (latest-start _ _ c.find_starts-found.ensures c.if-found-eq0.false)))
