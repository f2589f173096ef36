-- `with_arc` meets its contract: what is put one after another is put at once. Assumes nothing.
use Rattle.remarks.proofs.Making.{seven}
use Rattle.remarks.specs.Remarks.{arc_text}
use Rattle.remarks.proofs.with_arc.Goals as goal

pub returns : goal.returns
unfolding arc_text
returns c =
    rw (c.text-4.ensures, c.put_angle.ensures, c.text-3.ensures, c.put_angle-from.ensures, c.text-2.ensures, c.text.ensures, c.at_line.ensures)
    (seven _ _ _ _ _ _ _ _)
