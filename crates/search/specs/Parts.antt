-- What only contracts of private functions speak of: what more is asked, where a longitude stands to a body's arcs,
-- whose turn it is in the scan, and what the passes over the visited days rely on and leave.
-- Assumes nothing.
use Rattle.std.specs.Prelude.{Bool, true, false, cond, not, ◌&&◌, ◌||◌, List, ◌∷◌, Option, Some, None, ◌≡◌, ℕ, ◌+◌, ◌-◌, ◌<◌, ◌≤◌, length, drop}
use Rattle.entries.specs.Runs.{filtered}
use Rattle.longitudes.specs.Longitudes.{circle, difference_of}
use Rattle.query.specs.declared.Arc.{Arc}
use Rattle.query.specs.declared.BodyArcs.{BodyArcs}
use Rattle.query.specs.declared.Query.{Query}
use Rattle.query.specs.Conditions.{each_other, arcs_at, arcs_given, given_arcs, in_arc, in_some, in_arcs, nearest_start}
use Rattle.query.specs.Query.{conditions_met, refusal_of}
use Rattle.query.specs.TrueBodies.{true_number}
use Rattle.search.specs.declared.More.{More}
use Rattle.search.specs.declared.More.TheVariants.{Nothing, Elements, TrueArcs, Several}
use Rattle.search.specs.declared.Places.{Places}
use Rattle.search.specs.declared.Places.TheVariants as places
use Rattle.search.specs.declared.Visit.{Visit}
use Rattle.search.specs.declared.Tally.{Tally}
use Rattle.search.specs.Days.{matching_days, visited_from, visited_days}

-- a test holds for some body but the Sun: it does not fail for each
abbrev pub some_other : (ℕ → Bool) → Bool
some_other p = not (each_other (λ (body : ℕ). not (p body)))

-- an arc of another body than the Sun is given
unfoldable pub other_arcs_given : List BodyArcs → Bool
other_arcs_given arcs = some_other (λ (body : ℕ). arcs_given (arcs_at arcs body))

-- an element is asked for
unfoldable pub elements_given : Query → Bool
elements_given q = q.tithi.given || (q.nakshatra.given || (q.yoga.given || q.karana.given))

-- no true longitude is asked for, but perhaps that of one place
abbrev pub NoneBut : List BodyArcs → ℕ → Type 0
NoneBut arcs place = (k : ℕ) → k < 7 → (k ≡ place → ⊥) → arcs_given (arcs_at arcs k) ≡ false

-- the places of which a true longitude is asked for: there are none, or there is one
unfoldable pub GivenPlaces : List BodyArcs → Places → Type 0
GivenPlaces arcs places.None = NoneBut arcs 7
GivenPlaces arcs (places.One place) = (place < 7) × NoneBut arcs place
GivenPlaces arcs places.Several = Unit {0}

-- what is asked beside the mean Sun's arcs and the weekdays is what is said, and no more
unfoldable pub Asks : Query → More → Type 0
Asks q Nothing = (other_arcs_given q.arcs ≡ false) × (elements_given q ≡ false) × NoneBut q.true_arcs 7
Asks q Elements = (other_arcs_given q.arcs ≡ false) × NoneBut q.true_arcs 7
Asks q (TrueArcs body arcs) = (other_arcs_given q.arcs ≡ false) × (elements_given q ≡ false) × (arcs ≡ arcs_at q.true_arcs (true_number body)) × NoneBut q.true_arcs (true_number body)
Asks q Several = Unit {0}

-- how many of the matching days are kept beside a list that may be too short for them
abbrev pub kept : ℕ
kept = 176

-- of a body's arcs the first that is given, or the second; and both are given
unfoldable pub leading_arc : BodyArcs → Arc
leading_arc a = cond a.first.given a.first a.second

unfoldable pub both_given : BodyArcs → Bool
both_given a = a.first.given && a.second.given

-- a longitude is in an arc, or the rest of the circle lies between it and the start
unfoldable pub approach_to : Arc → ℕ → Option ℕ
approach_to a x = cond (in_arc a x) None (Some (circle - difference_of x a.start))

-- a longitude will do, or it is in none of the arcs that are given, and so far from the nearer start
unfoldable pub Approached : BodyArcs → ℕ → Option ℕ → Type 0
Approached a x None = in_arcs a x ≡ true
Approached a x (Some ahead) = (arcs_given a ≡ true) × (in_some (given_arcs a) x ≡ false) × (ahead ≡ nearest_start (given_arcs a) x)

-- day d is the visited day number k, counted from 0
abbrev pub VisitAt : Query → ℕ → ℕ → Type 0
VisitAt q k d = drop k (visited_days q) ≡ d ∷ drop (k + 1) (visited_days q)

-- the days that the scan visits from day d on
abbrev pub visits_from : Query → ℕ → List ℕ
visits_from q d = visited_from q (q.last + 1 - d) d

-- those of them that match
abbrev pub matches_from : Query → ℕ → List ℕ
matches_from q d = filtered (conditions_met q) (visits_from q d)

-- a pass has come to a visit: so many days were visited before it, and n of them match
pub record Reached (q : Query) (n : ℕ) (visit : Visit) : Type 0 where
  pub visits : drop visit.examined (visited_days q) ≡ visits_from q visit.day
  pub matching : matches_from q visit.day ≡ drop n (matching_days q)
  pub counted : n + length (matches_from q visit.day) ≡ length (matching_days q)
  pub seen : visit.examined + length (visits_from q visit.day) ≡ length (visited_days q)
  pub fewer : n ≤ visit.examined
  pub gone : visit.examined + q.first ≤ visit.day

-- where a pass over the whole span begins
abbrev pub first_visit : Query → Visit
first_visit q = record { day = q.first; examined = 0 }

-- the visit behind it, of the day handed back
abbrev pub visit_after : Visit → ℕ → Visit
visit_after visit next = record { day = next; examined = visit.examined + 1 }

-- no day of the span after day d matches
abbrev pub NoneAfter : Query → ℕ → Type 0
NoneAfter q d = (m : ℕ) → d < m → m ≤ q.last → conditions_met q m ≡ false

-- what a pass from a visit up to day `until` relies on: count days match before it, and the output has room for them
pub record Scannable (q : Query) (start : Visit) (count until room : ℕ) : Type 0 where
  pub accepts : refusal_of q ≡ 0
  pub reached : Reached q count start
  pub fits : count ≤ room
  pub ends : until ≤ q.last
  pub none-later : NoneAfter q until

-- a day of the span after which none matches
pub record LastMatch (q : Query) (d : ℕ) : Type 0 where
  pub from_first : q.first ≤ d
  pub to_last : d ≤ q.last
  pub none-later : NoneAfter q d

-- what a pass from a visit up to day `until` finds, with room for so many entries
pub record Tallied (q : Query) (start : Visit) (until room : ℕ) (tally : Tally) : Type 0 where
  pub count : tally.length ≡ length (matching_days q)
  pub visits : until ≡ q.last → tally.examined ≡ length (visited_days q)
  pub last-match : start.day ≡ q.first → LastMatch q tally.latest
  pub resumes : room ≤ tally.length → Reached q room tally.resume
