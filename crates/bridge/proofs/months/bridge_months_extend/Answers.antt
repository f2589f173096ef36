-- `bridge_months_extend` meets its contract: the library's promise for the row, two numbers of it as one. Assumes
-- nothing.
use mathlib.Core.Path.{◌∙◌}
use Rattle.bridge.proofs.months.bridge_months_extend.Goals as goal

pub returns : goal.returns
returns c =
    let s = rw c.row.ensures at c.extend.ensures in
    record { value = c.joined.ensures ∙ rw (c.row_numbers-after.ensures, s.value); list_after = s.list_after }
