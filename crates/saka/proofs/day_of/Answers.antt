-- `day_of` meets its contract: the tests in the meaning's order, then the callees'.
use mathlib.Core.Bool.{true}
use mathlib.Core.Path.{◌≡◌, sym, ◌∙◌}
use Prim.Native.Nat.{◌-◌, ◌<◌}
use native.Mathlib.Omega.{arith}
use Rattle.std.specs.Prelude.{Ok}
use Rattle.saka.specs.LunarDays.{fields_in_range, year_in_range, elapsed_extra_months, lunar_day_with, lunar_day}
use Rattle.saka.proofs.Bounds.{InRange, in-range, reckoned}
use Rattle.saka.proofs.ExtraMonths.{elapsed, too_few}
use Rattle.saka.proofs.day_of.Goals as goal
use Rattle.saka.proofs.day_of.Goals.{Else-extra-pending, Else-not-fields_in_range, Else-not-year_in_range}

fields-ok : (c : Else-not-fields_in_range) → fields_in_range c.args.date ≡ true
fields-ok c = sym c.fields_in_range.ensures ∙ c.if-not-fields_in_range.false

year-ok : (c : Else-not-year_in_range) → year_in_range c.args.date.year ≡ true
year-ok c = sym c.year_in_range.ensures ∙ c.if-not-year_in_range.false

kept : (c : Else-not-year_in_range) → InRange c.args.date
kept c = in-range _ ((sym c.fields_in_range.ensures ∙ c.if-not-fields_in_range.false)) ((sym c.year_in_range.ensures ∙ c.if-not-year_in_range.false))

elapsed-small : (c : Else-extra-pending) → c.extra_months-extra.result - c.pending_months-pending.result < 11
elapsed-small c = omega (arith, (in-range _ ((sym c.fields_in_range.ensures ∙ c.if-not-fields_in_range.false)) ((sym c.year_in_range.ensures ∙ c.if-not-year_in_range.false))), c.extra_months-extra.ensures)

elapsed-is : (c : Else-extra-pending) → elapsed_extra_months c.args.date ≡ Ok (c.extra_months-extra.result - c.pending_months-pending.result)
elapsed-is c =
    let E = c.extra_months-extra.ensures in
    let P = c.pending_months-pending.ensures in
    rw (E, P) (elapsed _ (rw (E, P) at c.if-extra-pending.false))

pub returns-then-not-fields_in_range : goal.returns-then-not-fields_in_range
unfolding lunar_day lunar_day_with
returns-then-not-fields_in_range c = rw (sym c.fields_in_range.ensures ∙ c.if-not-fields_in_range.true)

pub returns-then-not-year_in_range : goal.returns-then-not-year_in_range
unfolding lunar_day lunar_day_with
returns-then-not-year_in_range c = rw (fields-ok (goal.at.returns-then-not-year_in_range c).Else-not-fields_in_range, sym c.year_in_range.ensures ∙ c.if-not-year_in_range.true)

pub returns-then-extra-pending : goal.returns-then-extra-pending
unfolding lunar_day lunar_day_with
returns-then-extra-pending c =
    let E = c.extra_months-extra.ensures in
    let P = c.pending_months-pending.ensures in
    rw (fields-ok (goal.at.returns-then-extra-pending c).Else-not-fields_in_range, year-ok (goal.at.returns-then-extra-pending c).Else-not-year_in_range, too_few _ (rw (E, P) at c.if-extra-pending.true))

pub day-requires : goal.day-requires
day-requires c = elapsed-small (goal.at.day-requires c).Else-extra-pending

pub on_weekday-requires : goal.on_weekday-requires
on_weekday-requires c =
    let d = kept (goal.at.on_weekday-requires c).Else-not-year_in_range in
    let h = reckoned _ _ d (elapsed-small (goal.at.on_weekday-requires c).Else-extra-pending) in
    let e = c.day.ensures in
    record { reckoned_bound = rw e h; weekday_bound = d.weekday }

pub returns : goal.returns
unfolding lunar_day lunar_day_with
returns c =
    rw (fields-ok (goal.at.returns c).Else-not-fields_in_range, year-ok (goal.at.returns c).Else-not-year_in_range, elapsed-is (goal.at.returns c).Else-extra-pending)
    (c.on_weekday.ensures ∙ rw c.day.ensures)
