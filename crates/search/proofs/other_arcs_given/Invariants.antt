-- What each turn of the loop keeps: no arcs passed are given.
use mathlib.Core.Path.{◌≡◌}
use mathlib.Core.Bool.{false}
use lib.ListN.{take}
use Rattle.std.specs.List.{list_any}
use Rattle.query.specs.Conditions.{arcs_given}
use Rattle.search.proofs.other_arcs_given.Given as goal

abbrev pub invariant-loop-of_body : goal.invariant-loop-of_body
invariant-loop-of_body l = list_any (λ a. arcs_given a) (take l.of_body-index l.of_body-items) ≡ false
