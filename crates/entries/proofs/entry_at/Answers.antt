-- `entry_at` meets its contract: the day of the entry's four bytes.
use borrow.Author.Tests.{lt-ltb, le-ltb}
use mathlib.Core.Path.{ap}
use Rattle.std.specs.Prelude.{Ok}
use Rattle.entries.specs.Entries.{entry_day, entry_at}
use Rattle.entries.proofs.entry_at.Goals as goal

pub returns-then-list-index : goal.returns-then-list-index
unfolding entry_at
returns-then-list-index c = rw (le-ltb _ _ c.if-list-index.true)

pub returns : goal.returns
unfolding entry_at entry_day
returns c = rw (lt-ltb _ _ c.if-list-index.false) (ap Ok c.day_of.ensures)
