-- `sheet::sheet` meets its contract: a number that was read is a day's. Assumes nothing.
use Rattle.text.proofs.Inputs.{day-read-low}
use Rattle.sheet.proofs.sheet.Goals as goal

pub two_lines-requires : goal.two_lines-requires
two_lines-requires c = day-read-low _ _ c.in-Ok.ensures
