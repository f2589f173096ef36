-- A query as bytes: 109 numbers, as the entries of a list are.
-- Assumes nothing.
use Rattle.std.specs.Prelude.{Bool, cond, not, List, [], ◌∷◌, map, ℕ, ◌+◌, eqb, length, Result, Ok, Err}
use Rattle.query.specs.declared.Asked.{Asked}
use Rattle.query.specs.declared.Weekdays.{Weekdays}
use Rattle.query.specs.declared.Arc.{Arc}
use Rattle.query.specs.declared.BodyArcs.{BodyArcs}
use Rattle.query.specs.declared.Query.{Query}
use Rattle.std.specs.Result.{result_unwrap_or}
use Rattle.days.specs.declared.refusal.Refusal.{Refusal}
use Rattle.days.specs.declared.refusal.Refusal.TheVariants.{BadInput}
use Rattle.entries.specs.Entries.{entry_at}

abbrev pub query_bytes : ℕ
query_bytes = 436

-- number k of the bytes
abbrev pub number_from : List ℕ → ℕ → ℕ
number_from bytes k = result_unwrap_or (entry_at bytes k) 0

-- given is any number but 0
abbrev pub given_from : List ℕ → ℕ → Bool
given_from bytes k = not (eqb (number_from bytes k) 0)

-- given, set
unfoldable pub weekdays_from : List ℕ → Weekdays
weekdays_from bytes = record { given = given_from bytes 2; set = number_from bytes 3 }

-- given, set
unfoldable pub asked_from : List ℕ → ℕ → Asked
asked_from bytes k = record { given = given_from bytes k; set = number_from bytes (k + 1) }

-- given, start, width
unfoldable pub arc_from : List ℕ → ℕ → Arc
arc_from bytes k = record { given = given_from bytes k; start = number_from bytes (k + 1); width = number_from bytes (k + 2) }

-- the first arc at place k, the second some numbers behind it
unfoldable pub body_arcs_from : List ℕ → ℕ → ℕ → BodyArcs
body_arcs_from bytes apart k = record { first = arc_from bytes k; second = arc_from bytes (k + apart) }

-- the arcs in the order of the bodies, first all first ones, then all second ones
unfoldable pub arcs_from : List ℕ → List BodyArcs
arcs_from bytes = map (body_arcs_from bytes 28) (10 ∷ 13 ∷ 16 ∷ 19 ∷ 22 ∷ 25 ∷ 28 ∷ 31 ∷ 34 ∷ [])

-- those of the true longitudes, both of each together
unfoldable pub true_arcs_from : List ℕ → List BodyArcs
true_arcs_from bytes = map (body_arcs_from bytes 3) (67 ∷ 73 ∷ 79 ∷ 85 ∷ 91 ∷ 97 ∷ 103 ∷ [])

-- first and last day, weekdays, tithi, nakshatra, yoga, the first arcs, the edition, the second arcs, karana, and
-- the arcs of true longitudes
unfoldable pub query_from : List ℕ → Query
query_from bytes =
    record {
      first = number_from bytes 0;
      last = number_from bytes 1;
      edition = number_from bytes 37;
      weekdays = weekdays_from bytes;
      tithi = asked_from bytes 4;
      nakshatra = asked_from bytes 6;
      yoga = asked_from bytes 8;
      karana = asked_from bytes 65;
      arcs = arcs_from bytes;
      true_arcs = true_arcs_from bytes;
    }

-- bytes of another length are refused
unfoldable pub query_read : List ℕ → Result Query Refusal
query_read bytes = cond (eqb (length bytes) query_bytes) (Ok (query_from bytes)) (Err BadInput)
