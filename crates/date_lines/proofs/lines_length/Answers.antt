-- `lines_length` meets its contract: by the kind. Assumes nothing.
use Prim.Native.Nat.{ℕ, min}
use mathlib.Core.Path.{ap, ◌∙◌}
use Rattle.date_lines.specs.Texts.{longest}
use Rattle.date_lines.proofs.Measuring.{listed-dates}
use Rattle.date_lines.proofs.lines_length.Goals as goal

pub returns-in-Dates : goal.returns-in-Dates
returns-in-Dates c = rw c.in-Dates.is (c.saturating_mul.ensures ∙ ap (λ (n : ℕ). min n longest) (listed-dates c.args.list.now))

pub returns-in-Days : goal.returns-in-Days
returns-in-Days c = rw c.in-Days.is c.numbers_length.ensures
