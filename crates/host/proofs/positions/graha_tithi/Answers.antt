-- `graha_tithi` meets its contract: a number of the pair is the number of the day, and the first edition's answers are
-- the day's.
use mathlib.Core.Path.{◌∙◌}
use Rattle.panchanga.specs.TrueLongitudes.{first_edition}
use Rattle.panchanga.specs.OnDays.{tithi_at}
use Rattle.panchanga.proofs.Answers.{first-edition}
use Rattle.host.proofs.OnNumbers.{on-number}
use Rattle.host.proofs.positions.graha_tithi.Goals as goal

pub returns : goal.returns
returns c = c.unwrap_or.ensures ∙ on-number (tithi_at first_edition) _ c.at.ensures (c.tithi.ensures ∙ first-edition tithi_at _)
