-- `check_extension` meets its contract: the edition, the covered number and the days, in turn.
use borrow.Author.Tests.{le-leb, lt-leb}
use mathlib.Core.Path.{◌≡◌, sym, ◌∙◌}
use mathlib.Core.Bool.{true}
use Prim.Native.Nat.{◌+◌, ◌≤◌, ◌<◌}
use native.Mathlib.Omega.{arith}
use Rattle.days.specs.Days.{last_day}
use Rattle.lunar_months.specs.Rows.{is_covered}
use Rattle.lunar_months.specs.Parts.{check_extension}
use Rattle.lunar_months.proofs.Answers.{covered-range}
use Rattle.lunar_months.proofs.check_extension.Goals as goal
use Rattle.lunar_months.proofs.check_extension.Goals.{Else-not-is_covered}

covered : (c : Else-not-is_covered) → is_covered c.args.row.covered ≡ true
covered c = sym c.is_covered.ensures ∙ c.if-not-is_covered.false

pub returns-then-not-is_edition : goal.returns-then-not-is_edition
unfolding check_extension
returns-then-not-is_edition c = rw (sym c.is_edition.ensures ∙ c.if-not-is_edition.true)

pub returns-then-not-is_covered : goal.returns-then-not-is_covered
unfolding check_extension
returns-then-not-is_covered c = rw (sym c.is_edition.ensures ∙ c.if-not-is_edition.false, sym c.is_covered.ensures ∙ c.if-not-is_covered.true)

pub overflow_sub-row : goal.overflow_sub-row
overflow_sub-row c = omega (arith, covered-range _ (covered (goal.at.overflow_sub-row c).Else-not-is_covered))

pub returns-then-row-days : goal.returns-then-row-days
unfolding check_extension
returns-then-row-days c =
    let k : last_day + 1 < c.args.row.covered + c.args.days = omega (arith, c.if-row-days.true) in
    rw (sym c.is_edition.ensures ∙ c.if-not-is_edition.false, covered (goal.at.returns-then-row-days c).Else-not-is_covered, lt-leb _ _ k)

pub returns-else-row-days : goal.returns-else-row-days
unfolding check_extension
returns-else-row-days c =
    let k : c.args.row.covered + c.args.days ≤ last_day + 1 = omega (arith, c.if-row-days.false, covered-range _ (covered (goal.at.returns-else-row-days c).Else-not-is_covered)) in
    rw (sym c.is_edition.ensures ∙ c.if-not-is_edition.false, covered (goal.at.returns-else-row-days c).Else-not-is_covered, le-leb _ _ k)
