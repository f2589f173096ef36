-- `with_fault` meets its contract: an arm for each text. Assumes nothing.
use native.Mathlib.Omega.{arith}
use borrow.Author.Tests.{ne_eqb}
use Rattle.std.proofs.Common.{◌≢◌}
use Rattle.conversion.specs.Conversion.{fault_text}
use Rattle.conversion.proofs.with_fault.Goals as goal

pub returns-in-15 : goal.returns-in-15
unfolding fault_text
returns-in-15 c = rw (c.with_form.ensures, c.in-15.is)

pub returns-in-7 : goal.returns-in-7
unfolding fault_text
returns-in-7 c = rw (c.text.ensures, c.in-7.is)

pub returns-in_default : goal.returns-in_default
unfolding fault_text
returns-in_default c =
    let other : c.args.refusal ≢ 15 = omega arith in
    let some : c.args.refusal ≢ 7 = omega arith in
    rw (c.with_refusal.ensures, ne_eqb _ 15 other, ne_eqb _ 7 some)
