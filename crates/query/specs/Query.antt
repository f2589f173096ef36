-- What a query asks of a day, and why it is refused.
-- Assumes nothing.
use Rattle.std.specs.Prelude.{Bool, cond, ◌&&◌, ℕ, leb, Result, Ok, Err}
use Rattle.days.specs.declared.refusal.Refusal.{Refusal}
use Rattle.days.specs.declared.refusal.Refusal.TheVariants.{BadCondition, BadEdition}
use Rattle.days.specs.Refusals.{accepted, bad_condition, bad_edition}
use Rattle.days.specs.Days.{weekday_on, pair_at, refused_span_or, answer_over}
use Rattle.panchanga.specs.TrueLongitudes.{is_edition}
use Rattle.query.specs.declared.BodyArcs.{BodyArcs}
use Rattle.query.specs.declared.Query.{Query}
use Rattle.query.specs.Conditions.{weekday_met, arcs_at, arcs_met, query_elements_met, true_arcs_met, conditions_in_range}

-- the Sun's arcs
abbrev pub sun_arcs : Query → BodyArcs
sun_arcs q = arcs_at q.arcs 0

-- day n meets all conditions given
unfoldable pub conditions_met : Query → ℕ → Bool
conditions_met q n =
    arcs_met q.arcs (pair_at n)
    && (weekday_met q.weekdays (weekday_on n) && (query_elements_met q (pair_at n) && true_arcs_met q.edition q.true_arcs (pair_at n)))

-- a day of the span: from the first day to the last, both counted
abbrev pub in_span : Query → ℕ → Bool
in_span q n = leb q.first n && leb n q.last

-- paper 01's fitting day: a day of the span that meets all conditions given
unfoldable pub matches : Query → ℕ → Bool
matches q n = in_span q n && conditions_met q n

-- why a query is refused whatever list is lent, or 0: the edition's 14 first, then in paper 01's order. 0 is paper 01's
-- well-formed reading
unfoldable pub refusal_of : Query → ℕ
refusal_of q =
    cond (is_edition q.edition)
    (refused_span_or q.first q.last (cond (conditions_in_range q) accepted bad_condition))
    bad_edition

-- the same with the refusal itself
unfoldable pub check_of : Query → Result (Unit {0}) Refusal
check_of q =
    cond (is_edition q.edition)
    (answer_over q.first q.last (cond (conditions_in_range q) (Ok tt) (Err BadCondition)))
    (Err BadEdition)
