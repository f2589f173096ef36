-- `end_remark` meets its contract: what is likely bounds its numbers, and nothing is said of none. Assumes nothing.
use mathlib.Core.Path.{sym, ◌∙◌}
use Rattle.remarks.specs.Remarks.{end_remark}
use Rattle.remarks.proofs.Fitting.{degrees-likely}
use Rattle.remarks.proofs.Cases.{nothing-said}
use Rattle.remarks.proofs.end_remark.Goals as goal

pub seconds_remark-requires : goal.seconds_remark-requires
seconds_remark-requires c =
    let h = rw (sym c.likely_degrees.ensures ∙ c.in-Some.is) at (degrees-likely c.read_decimal-from.result c.width_up_to-width.result) in
    (c.requires, h.0, h.1)

pub returns : goal.returns
unfolding end_remark
returns c =
    nothing-said _ _ (rw (c.width_up_to-width.ensures, c.read_decimal-from.ensures, c.read_decimal.ensures) at (sym c.likely_degrees.ensures ∙ c.in_default.is)) c.empty.ensures
