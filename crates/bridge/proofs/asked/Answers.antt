-- `asked` meets its contract: its numbers are the meaning's.
use Rattle.bridge.specs.Bytes.{asked_from}
use Rattle.bridge.proofs.asked.Goals as goal

pub returns : goal.returns
unfolding asked_from
returns c = rw (c.number-given.ensures, c.number-set.ensures)
