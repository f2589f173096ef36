-- `arc` meets its contract: its numbers are the meaning's.
use Rattle.bridge.specs.Bytes.{arc_from}
use Rattle.bridge.proofs.arc.Goals as goal

pub returns : goal.returns
unfolding arc_from
returns c = rw (c.number-given.ensures, c.number-start.ensures, c.number-width.ensures)
