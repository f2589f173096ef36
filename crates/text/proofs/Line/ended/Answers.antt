-- `text::Line::ended` meets its contract: whether the newline has room decides. Assumes nothing.
use borrow.Author.Tests.{lt-ltb, le-ltb}
use Rattle.text.specs.Lines.{ended}
use Rattle.text.proofs.Line.ended.Goals as goal

pub returns-then-self-lt-CAPACITY : goal.returns-then-self-lt-CAPACITY
unfolding ended
returns-then-self-lt-CAPACITY c = rw (lt-ltb _ _ c.if-self-lt-CAPACITY.true) c.byte.ensures

pub returns : goal.returns
unfolding ended
returns c = rw (le-ltb _ _ c.if-self-lt-CAPACITY.false) (rw c.number.ensures at c.refusal_line.ensures.made)
