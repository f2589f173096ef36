-- `check` meets its contract: the tests stand in the meaning's order. Assumes nothing.
use borrow.Author.Tests.{le-leb, lt-leb}
use mathlib.Core.Bool.{true}
use mathlib.Core.Path.{◌≡◌, sym, ap, ◌∙◌}
use Rattle.days.specs.Refusals.{result_number}
use Rattle.panchanga.specs.TrueLongitudes.{is_edition}
use Rattle.query.proofs.Accepted.{check-number}
use Rattle.reasons.specs.Reasons.{refusal_on}
use Rattle.reasons.proofs.check.Goals as goal
use Rattle.reasons.proofs.check.Goals.{Else-not-is_edition}

edition : (c : Else-not-is_edition) → is_edition c.args.query.edition ≡ true
edition c = sym c.is_edition.ensures ∙ c.if-not-is_edition.false

pub returns-then-not-is_edition : goal.returns-then-not-is_edition
unfolding refusal_on result_number
returns-then-not-is_edition c = rw (sym c.is_edition.ensures ∙ c.if-not-is_edition.true)

pub returns-then-day-gt-LAST : goal.returns-then-day-gt-LAST
unfolding refusal_on result_number
returns-then-day-gt-LAST c = rw (edition (goal.at.returns-then-day-gt-LAST c).Else-not-is_edition, lt-leb _ _ c.if-day-gt-LAST.true)

pub returns : goal.returns
unfolding refusal_on
returns c = ap result_number c.check.ensures ∙ check-number _ ∙ rw (edition (goal.at.returns c).Else-not-is_edition, le-leb _ _ c.if-day-gt-LAST.false)
