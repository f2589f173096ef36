-- `with_reason` meets its contract: an arm for each text. Assumes nothing.
use native.Mathlib.Omega.{arith}
use borrow.Author.Tests.{ne_eqb}
use Rattle.almanac_sheet.specs.AlmanacSheets.{fault_text}
use Rattle.almanac_sheet.proofs.with_reason.Goals as goal

pub returns-in-9 : goal.returns-in-9
unfolding fault_text
returns-in-9 c = rw (c.text.ensures, c.in-9.is)

pub returns-in-10 : goal.returns-in-10
unfolding fault_text
returns-in-10 c = rw (c.text-in-10.ensures, c.in-10.is)

pub returns-in-11 : goal.returns-in-11
unfolding fault_text
returns-in-11 c = rw (c.text-in-11.ensures, c.in-11.is)

pub returns-in-12 : goal.returns-in-12
unfolding fault_text
returns-in-12 c = rw (c.text-in-12.ensures, c.in-12.is)

pub returns-in_default : goal.returns-in_default
unfolding fault_text
returns-in_default c =
    let r = c.args.refusal in
    rw (c.text-in_default.ensures, ne_eqb r 9 (λ e. omega arith), ne_eqb r 10 (λ e. omega arith), ne_eqb r 11 (λ e. omega arith), ne_eqb r 12 (λ e. omega arith))
