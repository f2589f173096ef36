-- `first_unmet` meets its contract: the conditions are tested one after another, and each that holds leaves those
-- behind it. Assumes nothing.
use borrow.Author.Tests.{le-leb, lt-leb}
use mathlib.Core.Bool.{true}
use mathlib.Core.Path.{◌≡◌, ◌∙◌}
use Prim.Native.Nat.{ℕ}
use lib.ListN.{drop}
use Rattle.days.specs.Days.{in_range}
use Rattle.days.proofs.Laws.{pair-in-range}
use Rattle.panchanga.specs.TrueLongitudes.{is_edition}
use Rattle.query.specs.declared.Query.{Query}
use Rattle.reasons.specs.Conditions.{Cause, conditions_on, first_unmet}
use Rattle.reasons.specs.Parts.{element_at}
use Rattle.reasons.specs.Reasons.{cause_of}
use Rattle.reasons.proofs.Order.{next, here, tested-next, tested-here}
use Rattle.reasons.proofs.first_unmet.Goals as goal
use Rattle.reasons.proofs.first_unmet.Goals.{Else-query-day, In_default, In_default-test_element, In_default-test_element-2, In_default-test_element-3, In_default-test_element-4, After-at-pair}

-- what is first from condition k on, counted from 0
abbrev from : Query → ℕ → ℕ → Cause
from q d k = first_unmet (drop k (conditions_on q d))

-- after each test, what is first from there on is what was first before it
span-met : (c : Else-query-day) → from c.args.query c.args.day 2 ≡ from c.args.query c.args.day 0
unfolding conditions_on
span-met c = next _ _ (le-leb _ _ c.if-query-day.false) ∙ next _ _ (le-leb _ _ c.if-day-query.false)

weekday-met : (c : In_default) → from c.args.query c.args.day 3 ≡ from c.args.query c.args.day 2
unfolding conditions_on
weekday-met c = tested-next 3 _ _ _ c.in_default.ensures

tithi-met : (c : In_default-test_element) → from c.args.query c.args.day 4 ≡ from c.args.query c.args.day 3
unfolding conditions_on element_at
tithi-met c = tested-next 4 _ _ _ (rw c.at-pair.ensures at c.in_default-test_element.ensures)

nakshatra-met : (c : In_default-test_element-2) → from c.args.query c.args.day 5 ≡ from c.args.query c.args.day 4
unfolding conditions_on element_at
nakshatra-met c = tested-next 5 _ _ _ (rw c.at-pair.ensures at c.in_default-test_element-2.ensures)

yoga-met : (c : In_default-test_element-3) → from c.args.query c.args.day 6 ≡ from c.args.query c.args.day 5
unfolding conditions_on element_at
yoga-met c = tested-next 6 _ _ _ (rw c.at-pair.ensures at c.in_default-test_element-3.ensures)

-- behind the yoga comes the karana, and behind it the longitudes
karana-met : (c : In_default-test_element-4) → from c.args.query c.args.day 7 ≡ from c.args.query c.args.day 6
unfolding conditions_on element_at
karana-met c = tested-next 16 _ _ _ (rw c.at-pair.ensures at c.in_default-test_element-4.ensures)

known : (c : After-at-pair) → (in_range c.at-pair.result ≡ true) × (is_edition c.args.query.edition ≡ true)
known c = (rw c.at-pair.ensures (pair-in-range _ c.requires.0), c.requires.1)

pub returns-then-day-query : goal.returns-then-day-query
unfolding cause_of conditions_on
returns-then-day-query c = here _ _ (lt-leb _ _ c.if-day-query.true)

pub returns-then-query-day : goal.returns-then-query-day
unfolding cause_of conditions_on
returns-then-query-day c = here _ _ (lt-leb _ _ c.if-query-day.true) ∙ next _ _ (le-leb _ _ c.if-day-query.false)

pub returns-in-Some : goal.returns-in-Some
unfolding cause_of conditions_on
returns-in-Some c = tested-here 3 _ _ _ c.in-Some.ensures ∙ span-met (goal.at.returns-in-Some c).Else-query-day

pub test_element-requires : goal.test_element-requires
test_element-requires c = known (goal.at.test_element-requires c).After-at-pair

pub returns-in-Some-test_element : goal.returns-in-Some-test_element
unfolding cause_of conditions_on element_at
returns-in-Some-test_element c =
    tested-here 4 _ _ _ (rw c.at-pair.ensures at c.in-Some-test_element.ensures)
    ∙ weekday-met (goal.at.returns-in-Some-test_element c).In_default ∙ span-met (goal.at.returns-in-Some-test_element c).Else-query-day

pub test_element-requires-2 : goal.test_element-requires-2
test_element-requires-2 c = known (goal.at.test_element-requires-2 c).After-at-pair

pub returns-in-Some-test_element-2 : goal.returns-in-Some-test_element-2
unfolding cause_of conditions_on element_at
returns-in-Some-test_element-2 c =
    tested-here 5 _ _ _ (rw c.at-pair.ensures at c.in-Some-test_element-2.ensures)
    ∙ tithi-met (goal.at.returns-in-Some-test_element-2 c).In_default-test_element ∙ weekday-met (goal.at.returns-in-Some-test_element-2 c).In_default ∙ span-met (goal.at.returns-in-Some-test_element-2 c).Else-query-day

pub test_element-requires-3 : goal.test_element-requires-3
test_element-requires-3 c = known (goal.at.test_element-requires-3 c).After-at-pair

pub returns-in-Some-test_element-3 : goal.returns-in-Some-test_element-3
unfolding cause_of conditions_on element_at
returns-in-Some-test_element-3 c =
    tested-here 6 _ _ _ (rw c.at-pair.ensures at c.in-Some-test_element-3.ensures)
    ∙ nakshatra-met (goal.at.returns-in-Some-test_element-3 c).In_default-test_element-2 ∙ tithi-met (goal.at.returns-in-Some-test_element-3 c).In_default-test_element ∙ weekday-met (goal.at.returns-in-Some-test_element-3 c).In_default ∙ span-met (goal.at.returns-in-Some-test_element-3 c).Else-query-day

pub test_element-requires-4 : goal.test_element-requires-4
test_element-requires-4 c = known (goal.at.test_element-requires-4 c).After-at-pair

pub returns-in-Some-test_element-4 : goal.returns-in-Some-test_element-4
unfolding cause_of conditions_on element_at
returns-in-Some-test_element-4 c =
    tested-here 16 _ _ _ (rw c.at-pair.ensures at c.in-Some-test_element-4.ensures)
    ∙ yoga-met (goal.at.returns-in-Some-test_element-4 c).In_default-test_element-3 ∙ nakshatra-met (goal.at.returns-in-Some-test_element-4 c).In_default-test_element-2 ∙ tithi-met (goal.at.returns-in-Some-test_element-4 c).In_default-test_element ∙ weekday-met (goal.at.returns-in-Some-test_element-4 c).In_default ∙ span-met (goal.at.returns-in-Some-test_element-4 c).Else-query-day

pub unmet_arcs-requires : goal.unmet_arcs-requires
unmet_arcs-requires c = known (goal.at.unmet_arcs-requires c).After-at-pair

pub returns : goal.returns
unfolding conditions_on
returns c =
    (rw c.at-pair.ensures at c.unmet_arcs.ensures)
    ∙ karana-met (goal.at.returns c).In_default-test_element-4 ∙ yoga-met (goal.at.returns c).In_default-test_element-3 ∙ nakshatra-met (goal.at.returns c).In_default-test_element-2 ∙ tithi-met (goal.at.returns c).In_default-test_element ∙ weekday-met (goal.at.returns c).In_default ∙ span-met (goal.at.returns c).Else-query-day
