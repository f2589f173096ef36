-- `unless_empty` meets its contract: by its test. Assumes nothing.
use borrow.Author.Tests.{lt-ltb, le-ltb}
use Rattle.catalogue.proofs.unless_empty.Goals as goal

pub returns-then-from-piece : goal.returns-then-from-piece
returns-then-from-piece c = rw (lt-ltb _ _ c.if-from-piece.true)

pub returns-else-from-piece : goal.returns-else-from-piece
returns-else-from-piece c = rw (le-ltb _ _ c.if-from-piece.false)
