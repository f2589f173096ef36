-- `bridge_months_covered` meets its contract: the library's promise for the row, two numbers of it as one. Assumes
-- nothing.
use mathlib.Core.Path.{◌∙◌}
use Rattle.bridge.proofs.months.bridge_months_covered.Goals as goal

pub returns : goal.returns
returns c = c.joined.ensures ∙ rw (c.row_numbers-after.ensures, c.extended.ensures, c.row.ensures)
