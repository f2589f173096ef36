-- `before_extension` meets its contract: the meaning's tests in turn.
use borrow.Author.Tests.{le-leb, lt-leb}
use mathlib.Core.Path.{sym}
use Rattle.std.proofs.lemmas.Result.{err_from_is_err_and}
use Rattle.lunar_months.specs.Parts.{before_extension}
use Rattle.lunar_months.proofs.Months.before_extension.Goals as goal

pub returns-in_err-check_extension : goal.returns-in_err-check_extension
unfolding before_extension
returns-in_err-check_extension c =
    let p = err_from_is_err_and c.from_residual.result c.from_residual.ensures.1 in
    rw (p.1, p.2, sym c.in_err-check_extension.ensures)

pub returns-then-capacity-self : goal.returns-then-capacity-self
unfolding before_extension
returns-then-capacity-self c = rw (sym c.in_ok-check_extension.ensures, lt-leb _ _ c.if-capacity-self.true)

pub returns : goal.returns
unfolding before_extension
returns c = rw (sym c.in_ok-check_extension.ensures, le-leb _ _ c.if-capacity-self.false)
