-- `read_input` meets its contract: an input that is too long or not one line decides, else its line.
use borrow.Author.Tests.{eq-eqb, ne_eqb, lt-ltb, le-ltb}
use mathlib.Core.Path.{ap, ◌∙◌}
use native.Mathlib.Omega.{arith}
use Rattle.span_line.specs.SpanLine.{is_one_line}
use Rattle.span_line.proofs.Laws.{end-within}
use Rattle.lunar_month_sheet.specs.MonthSheets.{asked_line, asked_input}
use Rattle.lunar_month_sheet.proofs.read_input.Goals as goal

pub returns-then-input-ge-TOO_LONG : goal.returns-then-input-ge-TOO_LONG
unfolding asked_input
returns-then-input-ge-TOO_LONG c = rw (le-ltb _ _ c.if-input-ge-TOO_LONG.true)

pub overflow_add-end : goal.overflow_add-end
overflow_add-end c = omega (arith, end-within _ _ c.run_length-end.ensures)

pub returns-then-end-input : goal.returns-then-end-input
unfolding asked_input is_one_line
returns-then-end-input c = rw (lt-ltb _ _ c.if-input-ge-TOO_LONG.false, ne_eqb _ _ (rw c.run_length-end.ensures at c.if-end-input.true))

pub returns : goal.returns
unfolding asked_input is_one_line
returns c = rw (lt-ltb _ _ c.if-input-ge-TOO_LONG.false, eq-eqb _ _ (rw c.run_length-end.ensures at c.if-end-input.false)) (c.read_words.ensures ∙ ap asked_line c.up_to.ensures)
