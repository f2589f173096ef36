-- `page_behind` meets its contract; the line at fault is among the first of the text, so that one more fits. Assumes
-- nothing.
use mathlib.Core.Path.{sym, ◌∙◌}
use native.Mathlib.Omega.{arith}
use Rattle.page.proofs.LineNumbers.{line-number}
use Rattle.question.proofs.page_behind.Goals as goal

pub overflow_add-result : goal.overflow_add-result
overflow_add-result c = omega (arith, line-number c.after.result.now (sym c.read.ensures ∙ c.in-Err.is))
