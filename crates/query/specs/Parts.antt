-- The conditions beside the Sun's arcs and the weekdays, together: what the code tests at one go, and no meaning of the
-- papers.
-- Assumes nothing.
use Rattle.std.specs.Prelude.{Bool, ◌&&◌, List}
use Rattle.days.specs.declared.Day.{Day}
use Rattle.days.specs.Days.{in_range}
use Rattle.panchanga.specs.TrueLongitudes.{is_edition}
use Rattle.query.specs.declared.BodyArcs.{BodyArcs}
use Rattle.query.specs.declared.Query.{Query}
use Rattle.query.specs.Conditions.{each_other, body_met, query_elements_met, true_arcs_met}

-- the mean longitude of every body but the Sun will do
unfoldable pub other_arcs_met : List BodyArcs → Day → Bool
other_arcs_met arcs d = each_other (body_met arcs d)

-- a day meets all conditions beside the Sun's arcs and the weekdays; a pair out of range is no day, and a number that
-- is no edition has no elements
unfoldable pub others_met : Query → Day → Bool
others_met q d =
    is_edition q.edition
    && (in_range d && (other_arcs_met q.arcs d && (query_elements_met q d && true_arcs_met q.edition q.true_arcs d)))
