-- `graha_nakshatra` meets its contract: a number of the pair is the number of the day, and the first edition's answers
-- are the day's.
use mathlib.Core.Path.{◌∙◌}
use Rattle.panchanga.specs.TrueLongitudes.{first_edition}
use Rattle.panchanga.specs.OnDays.{nakshatra_at}
use Rattle.panchanga.proofs.Answers.{first-edition}
use Rattle.host.proofs.OnNumbers.{on-number}
use Rattle.host.proofs.positions.graha_nakshatra.Goals as goal

pub returns : goal.returns
returns c = c.unwrap_or.ensures ∙ on-number (nakshatra_at first_edition) _ c.at.ensures (c.nakshatra.ensures ∙ first-edition nakshatra_at _)
