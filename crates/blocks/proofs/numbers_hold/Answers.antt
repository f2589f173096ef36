-- `numbers_hold` meets its contract: what is asked of the numbers left is what was asked of all.
use mathlib.Core.Path.{sym, ◌∙◌}
use native.Mathlib.Omega.{arith}
use Rattle.blocks.proofs.Steps.{has-start, has-next, has-not, has-none}
use Rattle.blocks.proofs.numbers_hold.Goals as goal

pub loop-i-init : goal.loop-i-init
loop-i-init c = (omega arith, has-start _ _ _)

pub returns-then-number_at-number : goal.returns-then-number_at-number
returns-then-number_at-number c = sym (sym c.loop-i.invariant.1 ∙ has-not _ _ _ _ (omega arith) (λ e. c.if-number_at-number.true (c.number_at.ensures ∙ e)))

pub loop-i-preserved : goal.loop-i-preserved
loop-i-preserved c = (omega arith, has-next _ _ _ _ (omega arith) (sym c.number_at.ensures ∙ c.if-number_at-number.false) ∙ c.loop-i.invariant.1)

pub returns : goal.returns
returns c = sym (sym c.loop-i.invariant.1 ∙ has-none _ _ c.loop-i.i c.args.numbers (omega arith))
