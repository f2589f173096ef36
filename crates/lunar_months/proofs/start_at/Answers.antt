-- `start_at` meets its contract: an entry is its four bytes.
use mathlib.Core.Path.{◌∙◌}
use Rattle.lunar_months.proofs.Latest.{entry-bytes}
use Rattle.lunar_months.proofs.start_at.Goals as goal

pub returns : goal.returns
returns c = c.day_of.ensures ∙ entry-bytes _ _
