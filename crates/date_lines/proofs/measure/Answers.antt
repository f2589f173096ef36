-- `measure` meets its contract: by the bytes of all lines, where each entry is a day. Assumes nothing.
use mathlib.Core.Path.{sym, ◌∙◌}
use Rattle.date_lines.proofs.Measuring.{not-days, all-are-days, fits, fits-not}
use Rattle.date_lines.proofs.measure.Goals as goal

pub returns-then-not-all_days : goal.returns-then-not-all_days
returns-then-not-all_days c = not-days _ _ _ (sym c.all_days.ensures ∙ c.if-not-all_days.true)

pub returns-then-length-bytes : goal.returns-then-length-bytes
returns-then-length-bytes c = fits _ _ _ c.lines_length-length.ensures c.requires c.if-length-bytes.true ∙ all-are-days _ _ _ (sym c.all_days.ensures ∙ c.if-not-all_days.false)

pub returns : goal.returns
returns c = fits-not _ _ _ c.lines_length-length.ensures c.requires c.if-length-bytes.false ∙ all-are-days _ _ _ (sym c.all_days.ensures ∙ c.if-not-all_days.false)
