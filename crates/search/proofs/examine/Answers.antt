-- `examine` meets its contract: refused for the edition, for the day or for the query; of a day of the span what the
-- look says of it as the only one, of another no match.
use mathlib.Core.Bool.{true}
use mathlib.Core.Path.{◌≡◌, sym, ◌∙◌}
use Rattle.std.proofs.lemmas.Result.{err_from_is_err_and}
use Rattle.panchanga.specs.TrueLongitudes.{is_edition}
use Rattle.query.specs.Query.{refusal_of}
use Rattle.query.proofs.Accepted.{checked}
use Rattle.search.proofs.Look.{refused-edition, refused-day, refused-query, not-refused, looked-at, outside-span}
use Rattle.search.proofs.Passes.{alone-due, alone-seen}
use Rattle.search.proofs.examine.Goals as goal
use Rattle.search.proofs.examine.Goals.{Else-not-is_edition, In_ok-check}

edition : (c : Else-not-is_edition) → is_edition c.args.query.edition ≡ true
edition c = sym c.is_edition.ensures ∙ c.if-not-is_edition.false

accepted : (c : In_ok-check) → refusal_of c.args.query ≡ 0
accepted c = checked _ c.in_ok-check.ensures

pub returns-then-not-is_edition : goal.returns-then-not-is_edition
returns-then-not-is_edition c = refused-edition _ _ (sym c.is_edition.ensures ∙ c.if-not-is_edition.true)

pub returns-then-day-gt-LAST : goal.returns-then-day-gt-LAST
returns-then-day-gt-LAST c = refused-day _ _ (edition (goal.at.returns-then-day-gt-LAST c).Else-not-is_edition) c.if-day-gt-LAST.true

pub returns-in_err-check : goal.returns-in_err-check
returns-in_err-check c =
    let p = err_from_is_err_and c.from_residual.result c.from_residual.ensures.1 in
    rw (p.1, p.2) (refused-query _ _ (edition (goal.at.returns-in_err-check c).Else-not-is_edition) c.if-day-gt-LAST.false c.in_err-check.ensures)

pub examine_day-seen-requires : goal.examine_day-seen-requires
examine_day-seen-requires c =
    let due = alone-due _ _ _ _ (accepted (goal.at.examine_day-seen-requires c).In_ok-check) c.if-day-gt-LAST.false c.over_day-alone.ensures c.first_visit-visit.ensures in
    record { query_value = due.0; asks = c.more_asked-more.ensures; day_value = due.1.0; visit_at = due.1.1 }

pub returns-then-in_span : goal.returns-then-in_span
returns-then-in_span c =
    not-refused _ _ (edition (goal.at.returns-then-in_span c).Else-not-is_edition) c.if-day-gt-LAST.false c.in_ok-check.ensures
    (alone-seen _ _ _ _ (accepted (goal.at.returns-then-in_span c).In_ok-check) c.if-day-gt-LAST.false c.over_day-alone.ensures c.first_visit-visit.ensures _ c.examine_day-seen.ensures
    ∙ sym (looked-at _ _ (sym c.in_span.ensures ∙ c.if-in_span.true)))

pub returns : goal.returns
returns c =
    not-refused _ _ (edition (goal.at.returns c).Else-not-is_edition) c.if-day-gt-LAST.false c.in_ok-check.ensures
    (rw (alone-seen _ _ _ _ (accepted (goal.at.returns c).In_ok-check) c.if-day-gt-LAST.false c.over_day-alone.ensures c.first_visit-visit.ensures _ c.examine_day-seen.ensures)
    (outside-span _ _ (sym c.in_span.ensures ∙ c.if-in_span.false)))
