-- `Query::check` meets its contract: its tests are the meaning's, in their order.
use mathlib.Core.Bool.{true}
use mathlib.Core.Path.{◌≡◌, sym, ◌∙◌}
use Rattle.std.proofs.lemmas.Result.{err_from_is_err_and}
use Rattle.days.proofs.Laws.{Span, checked, over-span, over-refused}
use Rattle.panchanga.specs.TrueLongitudes.{is_edition}
use Rattle.query.specs.Query.{check_of}
use Rattle.query.proofs.Query.check.Goals as goal
use Rattle.query.proofs.Query.check.Goals.{Else-not-is_edition, In_ok-check_span}

edition : (c : Else-not-is_edition) → is_edition c.args.self.edition ≡ true
edition c = sym c.is_edition.ensures ∙ c.if-not-is_edition.false

span : (c : In_ok-check_span) → Span c.args.self.first c.args.self.last
span c = checked _ _ c.in_ok-check_span.ensures

pub returns-then-not-is_edition : goal.returns-then-not-is_edition
unfolding check_of
returns-then-not-is_edition c = rw (sym c.is_edition.ensures ∙ c.if-not-is_edition.true)

pub returns-in_err-check_span : goal.returns-in_err-check_span
unfolding check_of
returns-in_err-check_span c =
    let p = err_from_is_err_and c.from_residual.result c.from_residual.ensures.1 in
    rw (p.1, p.2, edition (goal.at.returns-in_err-check_span c).Else-not-is_edition) (over-refused _ _ _ c.in_err-check_span.ensures)

pub returns-then-conditions_in_range : goal.returns-then-conditions_in_range
unfolding check_of
returns-then-conditions_in_range c = rw (edition (goal.at.returns-then-conditions_in_range c).Else-not-is_edition, over-span _ (span (goal.at.returns-then-conditions_in_range c).In_ok-check_span), sym c.conditions_in_range.ensures ∙ c.if-conditions_in_range.true)

pub returns-else-conditions_in_range : goal.returns-else-conditions_in_range
unfolding check_of
returns-else-conditions_in_range c = rw (edition (goal.at.returns-else-conditions_in_range c).Else-not-is_edition, over-span _ (span (goal.at.returns-else-conditions_in_range c).In_ok-check_span), sym c.conditions_in_range.ensures ∙ c.if-conditions_in_range.false)
