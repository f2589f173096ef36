-- `of_marked_input` meets its contract; a run of bytes ends within the text. Assumes nothing.
use native.Mathlib.Omega.{arith}
use Rattle.span_line.proofs.Laws.{end-within}
use Rattle.span_line.proofs.of_marked_input.Goals as goal

pub overflow_add-end : goal.overflow_add-end
overflow_add-end c = omega (arith, end-within _ _ c.run_length-end.ensures)
