-- `line` meets its contract: the answer and the line's index decide which line is meant. Assumes nothing.
use Prim.Native.Nat.{◌≤◌}
use native.Mathlib.Omega.{arith}
use Rattle.text.specs.Sheets.{line_at}
use Rattle.text.proofs.Holding.{nothing-held}
use Rattle.text.proofs.Sheets.{line-behind}
use Rattle.drift_sheet.proofs.line.Goals as goal
use Rattle.drift_sheet.proofs.line.Goals.{in_default-via-in-Ok+in_default, in_default-via-in-Err+in_default}

pub returns-in-Ok-eq0 : goal.returns-in-Ok-eq0
unfolding line_at
returns-in-Ok-eq0 c = rw (c.in-Ok-eq0.is-0, c.in-Ok-eq0.is-1) c.heading.ensures

pub returns-in-Ok-eq1 : goal.returns-in-Ok-eq1
unfolding line_at
returns-in-Ok-eq1 c = rw (c.in-Ok-eq1.is-0, c.in-Ok-eq1.is-1) c.body_line.ensures

pub returns-in-Ok-eq2 : goal.returns-in-Ok-eq2
unfolding line_at
returns-in-Ok-eq2 c = rw (c.in-Ok-eq2.is-0, c.in-Ok-eq2.is-1) c.body_line-in-Ok-eq2.ensures

pub returns-in-Ok-eq3 : goal.returns-in-Ok-eq3
unfolding line_at
returns-in-Ok-eq3 c = rw (c.in-Ok-eq3.is-0, c.in-Ok-eq3.is-1) c.body_line-in-Ok-eq3.ensures

pub returns-in-Err-eq0 : goal.returns-in-Err-eq0
unfolding line_at
returns-in-Err-eq0 c = rw (c.in-Err-eq0.is-0, c.in-Err-eq0.is-1) (rw c.number.ensures at c.refusal_line.ensures)

pub returns-in_default : goal.returns-in_default
returns-in_default c =
    elim c.in_default.branch [
      | in_default-via-in-Ok+in_default w ↦ let far : 4 ≤ c.args.index = omega (arith, w.in_default.is-1) in rw (w.in_default.is-0, line-behind _ c.args.index far) (nothing-held _ c.empty.ensures)
      | in_default-via-in-Err+in_default w ↦ let far : 1 ≤ c.args.index = omega (arith, w.in_default.is-1) in rw (w.in_default.is-0, line-behind _ c.args.index far) (nothing-held _ c.empty.ensures)
    ]
