-- `seconds_by` meets its contract: the definition, step by step, of numbers that fit. Assumes nothing.
use mathlib.Core.Path.{refl}
use native.Mathlib.Omega.{arith}
use Rattle.arms.specs.Parts.{seconds_by}
use Rattle.arms.proofs.Parts.{Bounded, bounded}
use Rattle.arms.proofs.seconds_by.Goals as goal
use Rattle.arms.proofs.seconds_by.Goals.{Start}

known : (c : Start) → Bounded c.args.steps c.args.day
known c = bounded _ _ c.requires.0 c.requires.1

pub overflow_mul-turned : goal.overflow_mul-turned
overflow_mul-turned c = omega (arith, known (goal.at.overflow_mul-turned c).Start)

pub overflow_add-turned : goal.overflow_add-turned
overflow_add-turned c = omega (arith, known (goal.at.overflow_add-turned c).Start)

pub overflow_mul-moved : goal.overflow_mul-moved
overflow_mul-moved c = omega (arith, known (goal.at.overflow_mul-moved c).Start)

pub overflow_cast-whole : goal.overflow_cast-whole
overflow_cast-whole c = omega (arith, known (goal.at.overflow_cast-whole c).Start)

pub overflow_add-whole : goal.overflow_add-whole
overflow_add-whole c = omega (arith, known (goal.at.overflow_add-whole c).Start)

pub returns : goal.returns
unfolding seconds_by
returns c = (refl, omega arith)
