-- `put_arcs` meets its contract: what is put one after another is put at once. Assumes nothing.
use Rattle.explanation.proofs.Making.{arcs-made}
use Rattle.explanation.proofs.put_arcs.Goals as goal

pub returns : goal.returns
returns c =
    rw (c.put_angle.ensures, c.text-3.ensures, c.put_arc-both.ensures, c.put_arc-first.ensures, c.text-2.ensures, c.text.ensures)
    (arcs-made _ _ _ _)
