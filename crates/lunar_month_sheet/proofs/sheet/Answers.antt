-- `sheet` meets its contract: a month that is told is of a day, and not after it.
use mathlib.Core.Path.{sym, ◌∙◌}
use Prim.Native.Nat.{◌≤◌}
use native.Mathlib.Omega.{arith}
use Rattle.std.specs.Prelude.{Option, Some, None, IfSome}
use Rattle.days.specs.Days.{last_day}
use Rattle.lunar_months.specs.declared.MonthStart.{MonthStart}
use Rattle.lunar_months.proofs.Made.{Told, month-told}
use Rattle.lunar_month_sheet.proofs.sheet.Goals as goal

within : (n : _) (month : Option MonthStart) → Told n month → IfSome month (λ s. (s.day ≤ last_day) × (s.number ≤ last_day))
within n None t = tt
within n (Some s) t = (omega (arith, t.day, t.start), omega (arith, t.day, t.number))

pub two_lines-requires : goal.two_lines-requires
two_lines-requires c =
    let t = month-told _ _ (sym c.in-Ok-month_on.is ∙ c.month_on.ensures) in
    (t.day, within _ _ t)
