-- `line` meets its contract: the day that was read, and for a refusal the line's index, decide which line is meant.
-- Assumes nothing.
use mathlib.Core.List.{[], ◌∷◌}
use native.Mathlib.Omega.{arith}
use Rattle.days.specs.Refusals.{refusal_number}
use Rattle.text.specs.Lines.{refusal_line}
use Rattle.text.proofs.Holding.{nothing-held}
use Rattle.text.proofs.Inputs.{day-read-low}
use Rattle.text.proofs.Sheets.{line_first, line-behind}
use Rattle.plate.specs.Plates.{plate_lines}
use Rattle.plate.proofs.line.Goals as goal

pub day_line-requires : goal.day_line-requires
day_line-requires c = day-read-low _ _ c.in-Ok.ensures

pub returns-in-Err : goal.returns-in-Err
unfolding plate_lines
returns-in-Err c = rw (← c.in-Err.ensures, c.if-index-eq0.true, line_first _ _, ← c.number.ensures) c.refusal_line.ensures

pub returns-in-Err-2 : goal.returns-in-Err-2
unfolding plate_lines
returns-in-Err-2 c = rw (← c.in-Err.ensures, line-behind (refusal_line (refusal_number c.in-Err.refusal) ∷ []) c.args.index (omega (arith, c.if-index-eq0.false))) (nothing-held _ c.empty.ensures)
