-- `text::Line::text` meets its contract: the bytes left, put on the line so far, make the line meant. Assumes nothing.
use mathlib.Core.Path.{refl}
use native.Mathlib.Omega.{arith}
use Rattle.text.proofs.Putting.{putting-fits, putting-full, putting-end}
use Rattle.text.proofs.Line.text.Goals as goal
use Rattle.text.proofs.Line.text.Goals.{then-len-lt-CAPACITY, else-len-lt-CAPACITY}

pub loop-b-init : goal.loop-b-init
loop-b-init c = refl

pub loop-b-preserved : goal.loop-b-preserved
loop-b-preserved c =
    let inv = c.loop-b.invariant in
    let more = c.loop-b-test.true in
    elim c.if-len-lt-CAPACITY.branch [
      | then-len-lt-CAPACITY w ↦ rw (w.bytes-is, w.len-is) (putting-fits _ _ _ _ inv more (omega arith))
      | else-len-lt-CAPACITY w ↦ rw (w.bytes-is, w.len-is) (putting-full _ _ _ _ inv more (omega arith))
    ]

pub returns : goal.returns
returns c = putting-end _ _ _ _ c.loop-b.invariant c.loop-b-test.false
