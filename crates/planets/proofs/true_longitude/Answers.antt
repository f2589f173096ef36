-- `true_longitude` meets its contract: `in_range` tells which answer it is.
use mathlib.Core.Path.{sym, ap, ◌∙◌}
use Rattle.std.specs.Prelude.{Ok}
use Rattle.days.proofs.Laws.{given, refused}
use Rattle.planets.proofs.true_longitude.Goals as goal

pub true_on-requires : goal.true_on-requires
true_on-requires c = sym c.in_range.ensures ∙ c.if-in_range.true

pub returns-then-in_range : goal.returns-then-in_range
returns-then-in_range c = ap Ok c.true_on.ensures ∙ sym (given _ _ (sym c.in_range.ensures ∙ c.if-in_range.true))

pub returns-else-in_range : goal.returns-else-in_range
returns-else-in_range c = sym (refused _ _ (sym c.in_range.ensures ∙ c.if-in_range.false))
