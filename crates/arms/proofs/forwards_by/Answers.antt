-- `forwards_by` meets its contract: within a cycle the way is what the day moves, and where a cycle turns the
-- difference of the two days' seconds. Assumes nothing.
use mathlib.Core.Path.{ap₂, ◌∙◌}
use native.Mathlib.Omega.{arith}
use Rattle.longitudes.specs.Longitudes.{difference_of}
use Rattle.longitudes.proofs.Subtraction.{is-small}
use Rattle.arms.proofs.Parts.{Bounded, bounded, gain, gain-small}
use Rattle.arms.proofs.forwards_by.Goals as goal
use Rattle.arms.proofs.forwards_by.Goals.{Start}

known : (c : Start) → Bounded c.args.steps c.args.day
known c = bounded _ _ c.requires.0 (omega (arith, c.requires.1))

pub overflow_mul-moved : goal.overflow_mul-moved
overflow_mul-moved c = omega (arith, known (goal.at.overflow_mul-moved c).Start)

pub overflow_add-next : goal.overflow_add-next
overflow_add-next c = omega (arith, known (goal.at.overflow_add-next c).Start)

pub returns-then-within : goal.returns-then-within
returns-then-within c =
    let small = c.requires.0 in
    (gain _ _ small c.if-within.true, gain-small _ _ small.day)

pub returns : goal.returns
returns c =
    let e = c.difference.ensures in
    (e ∙ ap₂ difference_of c.seconds_by-to.ensures.0 c.seconds_by-from.ensures.0, is-small _ _ _ e)
