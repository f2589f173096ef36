-- `put_arc` meets its contract: an arc that is not given puts nothing. Assumes nothing.
use mathlib.Core.List.{append_assoc}
use Rattle.text.proofs.Lines.{with-byte-is, with-bytes-append}
use Rattle.explanation.specs.Explanations.{arc_bytes}
use Rattle.explanation.proofs.put_arc.Goals as goal

pub returns-then-arc : goal.returns-then-arc
unfolding arc_bytes
returns-then-arc c = rw (c.put_angle.ensures, c.byte-then-arc.ensures, c.put_angle-started.ensures, c.byte.ensures, c.if-arc.true) (simp (with-byte-is, with-bytes-append, append_assoc))

pub returns-else-arc : goal.returns-else-arc
unfolding arc_bytes
returns-else-arc c = rw (c.text.ensures, c.if-arc.false)
