-- What each turn of the loop keeps.
use mathlib.Core.Path.{◌≡◌}
use Prim.Native.Nat.{ℕ}
use Rattle.days.specs.declared.Day.{Day}
use Rattle.query.specs.declared.Query.{Query}
use Rattle.reasons.specs.Conditions.{Cause, arcs_asked, true_conditions}
use Rattle.reasons.proofs.Rows.{unmet_from}
use Rattle.reasons.proofs.unmet_arcs.Given as goal

-- the first that is not met from body k on
abbrev pub from : Query → Day → ℕ → Cause
from q d k = unmet_from (arcs_asked q.arcs d) 9 (true_conditions q.edition q.true_arcs d) k

abbrev pub invariant-loop-body : goal.invariant-loop-body
invariant-loop-body l = from l.query l.day l.body ≡ from l.query l.day 0
