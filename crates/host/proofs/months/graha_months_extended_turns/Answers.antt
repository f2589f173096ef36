-- `graha_months_extended_turns` meets its contract: the library's promise for the row.
use Rattle.host.proofs.months.graha_months_extended_turns.Goals as goal

pub returns : goal.returns
returns c = rw (c.row_numbers-extended.ensures, c.extended.ensures, c.row.ensures)
