-- `span_remark` meets its contract: what is likely bounds its numbers, and nothing is said of none. Assumes nothing.
use mathlib.Core.Path.{sym, ◌∙◌}
use Rattle.remarks.specs.Remarks.{span_remark}
use Rattle.remarks.proofs.Fitting.{years-likely}
use Rattle.remarks.proofs.Cases.{nothing-said}
use Rattle.remarks.proofs.span_remark.Goals as goal

pub days_remark-requires : goal.days_remark-requires
days_remark-requires c =
    let h = rw (sym c.likely_years.ensures ∙ c.in-Some.is) at (years-likely c.read_decimal.result c.read_decimal-2.result) in
    (h.0, h.1)

pub returns : goal.returns
unfolding span_remark
returns c =
    nothing-said _ _ (rw (c.read_decimal.ensures, c.read_decimal-2.ensures) at (sym c.likely_years.ensures ∙ c.in_default.is)) c.empty.ensures
