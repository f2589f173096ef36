-- `text::Line::numbers` meets its contract: what `Putting` says holds before each number is put. Assumes nothing.
use mathlib.Core.Path.{refl}
use Rattle.text.proofs.Putting.{numbers-next, numbers-end}
use Rattle.text.proofs.Line.numbers.Goals as goal

pub loop-number-init : goal.loop-number-init
loop-number-init c = refl

pub loop-number-preserved : goal.loop-number-preserved
loop-number-preserved c =
    let next = numbers-next _ _ _ _ c.loop-number.invariant c.loop-number-test.true in
    rw (c.number-made.ensures, c.byte.ensures) next

pub returns : goal.returns
returns c = numbers-end _ _ _ _ c.loop-number.invariant c.loop-number-test.false
