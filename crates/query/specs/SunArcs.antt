-- The query that also asks for the mean Sun, where the true Sun is asked for and the mean one is not: in the same arcs,
-- made wider by the Sun's largest equation on both sides. It has the same matching days (the law `same-conditions`).
-- Assumes nothing.
use Rattle.std.specs.Prelude.{Bool, cond, not, ◌&&◌, ◌+◌, ◌*◌, min, set}
use Rattle.longitudes.specs.Longitudes.{circle, difference_of}
use Rattle.panchanga.specs.TrueLongitudes.{largest_sun_equation}
use Rattle.query.specs.declared.Arc.{Arc}
use Rattle.query.specs.declared.BodyArcs.{BodyArcs}
use Rattle.query.specs.declared.Query.{Query}
use Rattle.query.specs.Conditions.{arcs_at, arcs_given}
use Rattle.query.specs.Query.{sun_arcs}

-- an arc made wider on both sides; the whole circle where that is no less
unfoldable pub wider_arc : Arc → Arc
wider_arc a =
    record {
      given = a.given;
      start = difference_of a.start largest_sun_equation;
      width = min (a.width + 2 * largest_sun_equation) circle;
    }

unfoldable pub wider_arcs : BodyArcs → BodyArcs
wider_arcs a = record { first = wider_arc a.first; second = wider_arc a.second }

-- the true Sun's arcs
abbrev pub true_sun_arcs : Query → BodyArcs
true_sun_arcs q = arcs_at q.true_arcs 0

-- the true Sun is asked for, and the mean one is not
abbrev pub only_true_sun : Query → Bool
only_true_sun q = not (arcs_given (sun_arcs q)) && arcs_given (true_sun_arcs q)

-- the query with the mean Sun in some arcs
abbrev pub with_sun : Query → BodyArcs → Query
with_sun q arcs =
    record {
      first = q.first;
      last = q.last;
      edition = q.edition;
      weekdays = q.weekdays;
      tithi = q.tithi;
      nakshatra = q.nakshatra;
      yoga = q.yoga;
      karana = q.karana;
      arcs = set q.arcs 0 arcs;
      true_arcs = q.true_arcs;
    }

unfoldable pub with_sun_arcs : Query → Query
with_sun_arcs q = cond (only_true_sun q) (with_sun q (wider_arcs (true_sun_arcs q))) q
