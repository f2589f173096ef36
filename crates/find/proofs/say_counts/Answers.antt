-- `say_counts` meets its contract: the numbers are the query's. Assumes nothing.
use mathlib.Core.Path.{sym}
use Rattle.find.proofs.say_counts.Goals as goal

pub say_found-requires : goal.say_found-requires
say_found-requires c = rw (sym c.requires.0, sym c.requires.1) c.said-said.ensures
