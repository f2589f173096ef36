-- `weekdays` meets its contract: its numbers are the meaning's.
use Rattle.bridge.specs.Bytes.{weekdays_from}
use Rattle.bridge.proofs.weekdays.Goals as goal

pub returns : goal.returns
unfolding weekdays_from
returns c = rw (c.number-given.ensures, c.number-set.ensures)
