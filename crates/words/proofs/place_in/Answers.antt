-- `place_in` meets its contract: `Placing` holds before each name. Assumes nothing.
use mathlib.Core.Path.{sym, ◌∙◌}
use native.Mathlib.Omega.{arith}
use Rattle.words.proofs.Pieces.{after-shorter}
use Rattle.words.proofs.Places.{placing-start, first-same, placing-found, placing-end, placing-next}
use Rattle.words.proofs.place_in.Goals as goal

pub loop-rest-init : goal.loop-rest-init
loop-rest-init c = placing-start _ _

pub returns-then-is_name : goal.returns-then-is_name
returns-then-is_name c = placing-found _ _ _ _ c.loop-rest.invariant (sym (first-same _ _ _ _ c.up_to.ensures c.is_name.ensures) ∙ c.if-is_name.true)

pub overflow_add-place : goal.overflow_add-place
overflow_add-place c = omega (arith, c.loop-rest.invariant.room)

pub returns-then-run_length-rest : goal.returns-then-run_length-rest
returns-then-run_length-rest c = placing-end _ _ _ _ c.loop-rest.invariant (sym (first-same _ _ _ _ c.up_to.ensures c.is_name.ensures) ∙ c.if-is_name.false) (sym c.run_length.ensures ∙ c.if-run_length-rest.true)

pub loop-rest-smaller : goal.loop-rest-smaller
loop-rest-smaller c = rw c.after-others.ensures (after-shorter _ _ (λ end. c.if-run_length-rest.false (c.run_length.ensures ∙ end)))

pub loop-rest-preserved : goal.loop-rest-preserved
loop-rest-preserved c = rw c.after-others.ensures (placing-next _ _ _ _ c.loop-rest.invariant (sym (first-same _ _ _ _ c.up_to.ensures c.is_name.ensures) ∙ c.if-is_name.false) (λ end. c.if-run_length-rest.false (c.run_length.ensures ∙ end)))
