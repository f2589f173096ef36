-- `days_of` meets its contract: going through the blocks gives the reading.
use mathlib.Core.Path.{ap, ◌∙◌}
use Rattle.almanac.specs.Reading.{ended}
use Rattle.almanac.proofs.Through.{read_through}
use Rattle.almanac.proofs.days_of.Goals as goal

pub returns : goal.returns
returns c = c.ended.ensures ∙ ap ended c.go_through.ensures ∙ read_through _
