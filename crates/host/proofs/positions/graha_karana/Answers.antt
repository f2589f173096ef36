-- `graha_karana` meets its contract: a number of the pair is the number of the day, and the first edition's answers are
-- the day's.
use mathlib.Core.Path.{◌∙◌}
use Rattle.panchanga.specs.TrueLongitudes.{first_edition}
use Rattle.panchanga.specs.OnDays.{karana_at}
use Rattle.panchanga.proofs.Answers.{first-edition}
use Rattle.host.proofs.OnNumbers.{on-number}
use Rattle.host.proofs.positions.graha_karana.Goals as goal

pub returns : goal.returns
returns c = c.unwrap_or.ensures ∙ on-number (karana_at first_edition) _ c.at.ensures (c.karana.ensures ∙ first-edition karana_at _)
