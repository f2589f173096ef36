-- `body_arcs` meets its contract: the two arcs, by their places.
use Rattle.bridge.specs.Bytes.{body_arcs_from}
use Rattle.bridge.proofs.body_arcs.Goals as goal

pub returns : goal.returns
unfolding body_arcs_from
returns c = rw (c.arc-first.ensures, c.arc-second.ensures)
