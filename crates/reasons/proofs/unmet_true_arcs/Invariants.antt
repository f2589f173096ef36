-- What each turn of the loop keeps.
use mathlib.Core.List.{List, []}
use mathlib.Core.Path.{◌≡◌}
use Prim.Native.Nat.{ℕ}
use Rattle.days.specs.declared.Day.{Day}
use Rattle.query.specs.declared.BodyArcs.{BodyArcs}
use Rattle.reasons.specs.Conditions.{Cause, true_arcs_asked}
use Rattle.reasons.proofs.Rows.{unmet_from}
use Rattle.reasons.proofs.unmet_true_arcs.Given as goal

-- the first that is not met from place k on
abbrev pub from : ℕ → List BodyArcs → Day → ℕ → Cause
from edition arcs d k = unmet_from (true_arcs_asked edition arcs d) 7 [] k

abbrev pub invariant-loop-place : goal.invariant-loop-place
invariant-loop-place l = from l.edition l.arcs l.day l.place ≡ from l.edition l.arcs l.day 0
