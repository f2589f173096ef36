-- `BodyArcs::wider` meets its contract: both arcs are made wider.
use Rattle.query.specs.SunArcs.{wider_arcs}
use Rattle.query.proofs.BodyArcs.wider.Goals as goal

pub returns : goal.returns
unfolding wider_arcs
returns c = rw (c.wider-first.ensures, c.wider-second.ensures)
