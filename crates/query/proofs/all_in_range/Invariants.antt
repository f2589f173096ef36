-- What each turn of the loop keeps: the arcs passed are in range.
use mathlib.Core.Path.{◌≡◌}
use mathlib.Core.Bool.{true}
use lib.ListN.{take}
use Rattle.std.specs.List.{list_all}
use Rattle.query.specs.Conditions.{body_arcs_in_range}
use Rattle.query.proofs.all_in_range.Given as goal

abbrev pub invariant-loop-of_body : goal.invariant-loop-of_body
invariant-loop-of_body l = list_all body_arcs_in_range (take l.of_body-index l.fn.arcs) ≡ true
