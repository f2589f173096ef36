-- `show_scan` ends: where the look is not refused the next day is later (the law `looked-later`), so the measure, the
-- days left, goes down.
use Prim.Native.Nat.{◌<◌}
use mathlib.Core.Path.{sym, ◌∙◌}
use native.Mathlib.Omega.{arith}
use Rattle.search.proofs.Laws.{looked-later}
use Rattle.scan_days.proofs.show_scan.Goals as goal
use Rattle.scan_days.proofs.show_scan.Goals.{In-Ok}

later : (c : In-Ok) → c.loop-day.day < c.in-Ok.seen.next
later c = looked-later _ _ (sym c.in-Ok.is ∙ c.examine.ensures)

pub loop-day-smaller : goal.loop-day-smaller
loop-day-smaller c = omega (arith, later (goal.at.loop-day-smaller c).In-Ok)

pub loop-day-preserved : goal.loop-day-preserved
loop-day-preserved c = omega (arith, later (goal.at.loop-day-preserved c).In-Ok)
