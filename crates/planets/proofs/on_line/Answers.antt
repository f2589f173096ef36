-- `on_line` meets its contract: the two entries are weighed, which keeps to the row's largest.
use mathlib.Core.Path.{sym}
use native.Mathlib.Omega.{arith}
use Rattle.planets.proofs.Lines.{LineFits, line-fits, between}
use Rattle.planets.proofs.on_line.Goals as goal
use Rattle.planets.proofs.on_line.Goals.{Start}

fits : (c : Start) → LineFits c.args.row.now c.args.arc
fits c = line-fits _ _ c.requires.1

pub overflow_cast-entry : goal.overflow_cast-entry
overflow_cast-entry c = omega (arith, fits (goal.at.overflow_cast-entry c).Start)

pub overflow_cast-next : goal.overflow_cast-next
overflow_cast-next c = omega (arith, fits (goal.at.overflow_cast-next c).Start)

pub overflow_mul-result : goal.overflow_mul-result
overflow_mul-result c = omega (arith, fits (goal.at.overflow_mul-result c).Start)

pub overflow_mul-result-2 : goal.overflow_mul-result-2
overflow_mul-result-2 c = omega (arith, fits (goal.at.overflow_mul-result-2 c).Start)

pub overflow_add-result : goal.overflow_add-result
overflow_add-result c = omega (arith, fits (goal.at.overflow_add-result c).Start)

pub returns : goal.returns
returns c = (sym (between _ _), omega (arith, fits (goal.at.returns c).Start))
