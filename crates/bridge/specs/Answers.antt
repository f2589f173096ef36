-- What the bridge hands back: the library's own answers for a query of 436 bytes, and refusal 3 for bytes of another
-- length.
-- Assumes nothing.
use Rattle.std.specs.Prelude.{cond, List, [], ◌∷◌, ◌++◌, ℕ, eqb, length, get_or, Result}
use Rattle.days.specs.declared.refusal.Refusal.{Refusal}
use Rattle.days.specs.Refusals.{bad_input, and_then}
use Rattle.entries.specs.Entries.{capacity}
use Rattle.older_motions.specs.declared.Farthest.{Farthest}
use Rattle.older_motions.specs.declared.Drifts.{Drifts}
use Rattle.older_motions.specs.Drifts.{nothing as no_drift}
use Rattle.query.specs.declared.Arc.{Arc}
use Rattle.query.specs.declared.BodyArcs.{BodyArcs}
use Rattle.query.specs.declared.Query.{Query}
use Rattle.query.specs.Query.{refusal_of}
use Rattle.reasons.specs.Conditions.{Wanted, nothing, bound, any_of, mean_arcs, true_arcs}
use Rattle.reasons.specs.Reasons.{Numbers, no_answer, why_of}
use Rattle.search.specs.declared.Examined.{Examined}
use Rattle.search.specs.Look.{examined_of}
use Rattle.search.specs.Days.{matching_days, visited_days}
use Rattle.search.specs.Search.{result_of, unless_refused, list_after, first_listed}
use Rattle.bridge.specs.Bytes.{query_bytes, query_from, query_read}

unfoldable pub bridge_result : List ℕ → List ℕ → ℕ
bridge_result bytes list = cond (eqb (length bytes) query_bytes) (result_of (query_from bytes) (capacity list)) bad_input

-- the list afterwards
unfoldable pub bridge_list : List ℕ → List ℕ → List ℕ
bridge_list bytes list = cond (eqb (length bytes) query_bytes) (list_after (query_from bytes) list) list

-- the refusal whatever list is lent, and the list afterwards with the first of the matching days
unfoldable pub bridge_refusal : List ℕ → ℕ
bridge_refusal bytes = cond (eqb (length bytes) query_bytes) (refusal_of (query_from bytes)) bad_input

unfoldable pub bridge_first : List ℕ → List ℕ → List ℕ
bridge_first bytes list = cond (eqb (length bytes) query_bytes) (first_listed (query_from bytes) list) list

unfoldable pub bridge_length : List ℕ → ℕ
bridge_length bytes = cond (eqb (length bytes) query_bytes) (unless_refused (query_from bytes) (length (matching_days (query_from bytes)))) 0

unfoldable pub bridge_looked : List ℕ → ℕ
bridge_looked bytes = cond (eqb (length bytes) query_bytes) (unless_refused (query_from bytes) (length (visited_days (query_from bytes)))) 0

-- the look at a day
abbrev pub bridge_examined : List ℕ → ℕ → Result Examined Refusal
bridge_examined bytes day = and_then (query_read bytes) (λ (q : Query). examined_of q day)

-- why a day is not in the list
unfoldable pub bridge_why : List ℕ → ℕ → Numbers
bridge_why bytes day = cond (eqb (length bytes) query_bytes) (why_of (query_from bytes) day) (no_answer bad_input)

-- an arc in numbers: 1 where it is given or 0, its start and its width
abbrev pub arc_numbers : Arc → List ℕ
arc_numbers a = cond a.given 1 0 ∷ a.start ∷ a.width ∷ []

abbrev pub both_numbers : BodyArcs → List ℕ
both_numbers a = arc_numbers a.first ++ arc_numbers a.second

-- what was asked, in six numbers: an end of the span or a set is the first, with zeros behind it
abbrev pub one_number : ℕ → List ℕ
one_number n = n ∷ 0 ∷ 0 ∷ 0 ∷ 0 ∷ 0 ∷ []

unfoldable pub six_of : Wanted → List ℕ
six_of nothing = one_number 0
six_of (bound day) = one_number day
six_of (any_of set) = one_number set
six_of (mean_arcs a) = both_numbers a
six_of (true_arcs a) = both_numbers a

-- of the three drifts the one of that number, 0 the Sun's; behind the last one zeros
unfoldable pub one_of : Drifts → ℕ → Farthest
one_of drifts body = get_or (drifts.sun ∷ drifts.moon ∷ drifts.apogee ∷ []) body no_drift
