-- `days_hold` meets its contract: what is asked of the places left is what was asked of all.
use mathlib.Core.Path.{sym, ap, ◌∙◌}
use native.Mathlib.Omega.{arith}
use lib.ListN.{length}
use Rattle.blocks.specs.Blocks.{has_numbers}
use Rattle.blocks.proofs.Steps.{left-start, day-long, day-past, day-held, day-not, days-none}
use Rattle.blocks.proofs.days_hold.Goals as goal

pub loop-place-init : goal.loop-place-init
loop-place-init c = (omega arith, left-start _ _ _)

pub returns-then-due : goal.returns-then-due
returns-then-due c = sym (sym c.loop-place.invariant.1 ∙ day-past _ _ _ _ c.loop-place-test.true c.if-due.true)

pub numbers_hold-requires : goal.numbers_hold-requires
numbers_hold-requires c = (omega arith, (ap length c.day_numbers-numbers.ensures ∙ day-long _, omega arith))

pub returns-then-not-numbers_hold : goal.returns-then-not-numbers_hold
returns-then-not-numbers_hold c = sym (sym c.loop-place.invariant.1 ∙ day-not _ _ _ _ c.loop-place-test.true _ c.if-due.false (c.numbers_hold.ensures ∙ ap (has_numbers _ _) c.day_numbers-numbers.ensures) c.if-not-numbers_hold.true)

pub loop-place-preserved : goal.loop-place-preserved
loop-place-preserved c = (omega arith, day-held _ _ _ _ c.loop-place-test.true _ c.if-due.false (c.numbers_hold.ensures ∙ ap (has_numbers _ _) c.day_numbers-numbers.ensures) c.if-not-numbers_hold.false ∙ c.loop-place.invariant.1)

pub returns : goal.returns
returns c = sym (sym c.loop-place.invariant.1 ∙ days-none _ _ _ _ _ c.loop-place-test.false)
