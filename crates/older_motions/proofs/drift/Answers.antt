-- `drift` meets its contract: the three rows are the paper's and keep to their sizes. Assumes nothing.
use mathlib.Core.Path.{sym}
use native.Mathlib.Omega.{arith}
use Rattle.std.proofs.lemmas.Result.{err_from_is_err_and}
use Rattle.days.proofs.Laws.{Span, checked, over-refused}
use Rattle.longitudes.specs.Longitudes.{table}
use Rattle.older_motions.specs.OlderMotions.{sun_motion, moon_motion, apogee_motion}
use Rattle.older_motions.proofs.Laws.{drifts-given}
use Rattle.older_motions.proofs.drift.Goals as goal
use Rattle.older_motions.proofs.drift.Goals.{In_ok-check_span}

days : (c : In_ok-check_span) → Span c.args.first c.args.last
days c = checked _ _ c.in_ok-check_span.ensures

pub returns-in_err-check_span : goal.returns-in_err-check_span
returns-in_err-check_span c = let p = err_from_is_err_and c.from_residual.result c.from_residual.ensures.1 in rw (p.1, p.2) (over-refused _ _ _ c.in_err-check_span.ensures)

pub farthest_over-sun-requires : goal.farthest_over-sun-requires
farthest_over-sun-requires c = omega (arith, days (goal.at.farthest_over-sun-requires c).In_ok-check_span)

pub farthest_over-moon-requires : goal.farthest_over-moon-requires
farthest_over-moon-requires c = omega (arith, days (goal.at.farthest_over-moon-requires c).In_ok-check_span)

pub farthest_over-apogee-requires : goal.farthest_over-apogee-requires
farthest_over-apogee-requires c = omega (arith, days (goal.at.farthest_over-apogee-requires c).In_ok-check_span)

pub returns : goal.returns
unfolding sun_motion moon_motion apogee_motion table
returns c =
    rw (c.farthest_over-apogee.ensures, c.farthest_over-moon.ensures, c.farthest_over-sun.ensures) (sym (drifts-given _ _ (days (goal.at.returns c).In_ok-check_span)))
