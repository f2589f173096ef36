-- `more_asked` meets its contract: other bodies' arcs, then the places of true longitudes, with elements or without.
use mathlib.Core.Path.{sym, ◌∙◌}
use Prim.Native.Nat.{◌<◌}
use native.Mathlib.Omega.{arith}
use Rattle.query.specs.declared.TrueBody.TheVariants.{Sun}
use Rattle.query.proofs.TrueBodies.{in_order}
use Rattle.search.specs.Parts.{GivenPlaces, Asks}
use Rattle.search.proofs.more_asked.Goals as goal
use Rattle.search.proofs.more_asked.Goals.{In-One}

-- the place of the one true longitude that is asked for
low : (c : In-One) → c.in-One.place < 7
unfolding GivenPlaces
low c = c.in-One.ensures.0

pub returns-then-other_arcs_given : goal.returns-then-other_arcs_given
unfolding Asks
returns-then-other_arcs_given c = tt

pub returns-then-elements : goal.returns-then-elements
unfolding Asks GivenPlaces
returns-then-elements c = (sym c.other_arcs_given.ensures ∙ c.if-other_arcs_given.false, c.in-None.ensures)

pub returns-else-elements : goal.returns-else-elements
unfolding Asks GivenPlaces
returns-else-elements c = (sym c.other_arcs_given.ensures ∙ c.if-other_arcs_given.false, sym c.elements_given-elements.ensures ∙ c.if-elements.false, c.in-None.ensures)

pub bounds-place-place : goal.bounds-place-place
bounds-place-place c = low (goal.at.bounds-place-place c).In-One

pub offset_bounds-true_arcs-place : goal.offset_bounds-true_arcs-place
offset_bounds-true_arcs-place c = omega (arith, low (goal.at.offset_bounds-true_arcs-place c).In-One)

pub bounds-true_arcs-place : goal.bounds-true_arcs-place
bounds-true_arcs-place c = low (goal.at.bounds-true_arcs-place c).In-One

pub returns-then-elements-2 : goal.returns-then-elements-2
unfolding Asks
returns-then-elements-2 c = tt

pub returns-else-elements-2 : goal.returns-else-elements-2
unfolding Asks GivenPlaces
returns-else-elements-2 c =
    let here = in_order c.in-One.place Sun (low (goal.at.returns-else-elements-2 c).In-One) in
    (sym c.other_arcs_given.ensures ∙ c.if-other_arcs_given.false, sym c.elements_given-elements.ensures ∙ c.if-elements-2.false, rw here, rw here c.in-One.ensures.1)

pub returns-in-Several : goal.returns-in-Several
unfolding Asks
returns-in-Several c = tt
