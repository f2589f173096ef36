-- `plain_remark` meets its contract: what is likely bounds its numbers, and nothing is said of none. Assumes nothing.
use mathlib.Core.Path.{sym, ◌∙◌}
use Rattle.remarks.proofs.Fitting.{degrees-likely, end-likely}
use Rattle.remarks.proofs.Cases.{nothing-plain}
use Rattle.remarks.proofs.plain_remark.Goals as goal

pub seconds_remark-requires : goal.seconds_remark-requires
seconds_remark-requires c =
    let h = rw (sym c.likely_degrees.ensures ∙ c.in-Some.is) at (degrees-likely c.read_decimal.result c.read_decimal-2.result) in
    (c.requires, h.0, h.1)

pub width_remark-requires : goal.width_remark-requires
width_remark-requires c =
    let h = rw (sym c.likely_end.ensures ∙ c.in-Some-likely_end.is) at (end-likely c.angle.result c.angle-2.result) in
    (c.requires, h.0, h.1)

pub returns : goal.returns
returns c =
    nothing-plain _ _ _ _
    (rw (c.read_decimal.ensures, c.read_decimal-2.ensures) at (sym c.likely_degrees.ensures ∙ c.in_default.is))
    (rw (c.angle.ensures, c.angle-2.ensures) at (sym c.likely_end.ensures ∙ c.in_default-likely_end.is))
    c.empty.ensures
