-- `carry_out_numbered` meets its contract: each number's arm is what the arm's own function gives, and any other number
-- is refused. Assumes nothing.
use mathlib.Core.Path.{◌≡◌, ap, ◌∙◌}
use Rattle.std.proofs.Common.{◌≢◌}
use native.Mathlib.Omega.{arith}
use borrow.Author.Tests.{ne_eqb}
use Rattle.std.specs.Prelude.{Ok}
use Rattle.arms.specs.Orders.{carried_out_numbered}
use Rattle.arms.proofs.carry_out_numbered.Goals as goal

pub returns-in-0 : goal.returns-in-0
unfolding carried_out_numbered
returns-in-0 c = let e : c.args.number ≡ 0 = omega arith in ap Ok c.carry_out.ensures ∙ rw e

pub returns-in-1 : goal.returns-in-1
unfolding carried_out_numbered
returns-in-1 c = let e : c.args.number ≡ 1 = omega arith in ap Ok c.carry_out-in-1.ensures ∙ rw e

pub returns-in-2 : goal.returns-in-2
unfolding carried_out_numbered
returns-in-2 c = let e : c.args.number ≡ 2 = omega arith in ap Ok c.carry_out-in-2.ensures ∙ rw e

pub returns-in_default : goal.returns-in_default
unfolding carried_out_numbered
returns-in_default c =
    let zero : c.args.number ≢ 0 = omega arith in
    let one : c.args.number ≢ 1 = omega arith in
    let two : c.args.number ≢ 2 = omega arith in
    rw (ne_eqb _ 0 zero, ne_eqb _ 1 one, ne_eqb _ 2 two)
