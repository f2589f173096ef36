-- The conditions that a query sets a day, in paper 02's order, which goes on with a karana and with true longitudes,
-- and the first of them that does not hold.
-- Assumes nothing.
use Rattle.std.specs.Prelude.{Bool, cond, List, [], ◌∷◌, ◌++◌, ℕ, zero, suc, ◌+◌, leb}
use Rattle.days.specs.declared.Day.{Day}
use Rattle.days.specs.Days.{pair_at, weekday_on}
use Rattle.longitudes.specs.Longitudes.{longitude_at}
use Rattle.panchanga.specs.OnDays.{tithi_at, nakshatra_at, yoga_at, karana_at}
use Rattle.query.specs.declared.Asked.{Asked}
use Rattle.query.specs.declared.BodyArcs.{BodyArcs}
use Rattle.query.specs.declared.Query.{Query}
use Rattle.query.specs.Conditions.{meets, weekday_met, arcs_at, body_met, true_longitude_at, place_met}

-- what was asked: nothing, an end of the span, a set with a bit for each number, or both arcs, of a mean or of a true
-- longitude
pub data Wanted : Type 0 where
  nothing : Wanted
  bound : ℕ → Wanted
  any_of : ℕ → Wanted
  mean_arcs : BodyArcs → Wanted
  true_arcs : BodyArcs → Wanted

-- what shuts a day out: a condition by its number, what was asked and the value found. The numbers are names: a
-- karana's is behind those of the bodies, and in the order it stands before them
pub record Cause : Type 0 where
  pub condition : ℕ
  pub asked : Wanted
  pub found : ℕ

-- nothing does
abbrev pub no_cause : Cause
no_cause = record { condition = 0; asked = nothing; found = 0 }

-- a condition: whether it holds, and what shuts the day out where it does not
pub record Condition : Type 0 where
  pub holds : Bool
  pub cause : Cause

abbrev pub one_condition : ℕ → Bool → Wanted → ℕ → Condition
one_condition number holds asked found = record { holds = holds; cause = record { condition = number; asked = asked; found = found } }

abbrev pub element_asked : ℕ → Asked → ℕ → Condition
element_asked number a found = one_condition number (meets a found) (any_of a.set) found

-- the arcs of a body, and of a true longitude by its place
abbrev pub arcs_asked : List BodyArcs → Day → ℕ → Condition
arcs_asked arcs d body = one_condition (7 + body) (body_met arcs d body) (mean_arcs (arcs_at arcs body)) (longitude_at body d)

abbrev pub true_arcs_asked : ℕ → List BodyArcs → Day → ℕ → Condition
true_arcs_asked edition arcs d place =
    one_condition (17 + place) (place_met edition arcs d place) (true_arcs (arcs_at arcs place)) (true_longitude_at edition place d)

-- conditions in a row, so many from number k on
unfoldable pub row : (ℕ → Condition) → ℕ → ℕ → List Condition
row f k zero = []
row f k (suc n) = f k ∷ row f (k + 1) n

-- the seven true longitudes
abbrev pub true_conditions : ℕ → List BodyArcs → Day → List Condition
true_conditions edition arcs d = row (true_arcs_asked edition arcs d) 0 7

-- the nine bodies, then the true longitudes
abbrev pub longitude_conditions : Query → Day → List Condition
longitude_conditions q d = row (arcs_asked q.arcs d) 0 9 ++ true_conditions q.edition q.true_arcs d

-- THE ORDER: before the span, after the span, weekday, tithi, nakshatra, yoga, karana, then the arcs of mean longitudes
-- by body number, then those of true longitudes by place
unfoldable pub conditions_on : Query → ℕ → List Condition
conditions_on q n =
    one_condition 1 (leb q.first n) (bound q.first) n
    ∷ one_condition 2 (leb n q.last) (bound q.last) n
    ∷ one_condition 3 (weekday_met q.weekdays (weekday_on n)) (any_of q.weekdays.set) (weekday_on n)
    ∷ element_asked 4 q.tithi (tithi_at q.edition (pair_at n))
    ∷ element_asked 5 q.nakshatra (nakshatra_at q.edition (pair_at n))
    ∷ element_asked 6 q.yoga (yoga_at q.edition (pair_at n))
    ∷ element_asked 16 q.karana (karana_at q.edition (pair_at n))
    ∷ longitude_conditions q (pair_at n)

-- the first of some conditions that does not hold
unfoldable pub first_unmet : List Condition → Cause
first_unmet [] = no_cause
first_unmet (c ∷ cs) = cond c.holds (first_unmet cs) c.cause
