-- `graha_true_moon` meets its contract: a number of the pair is the number of the day, and the first edition's answers
-- are the day's.
use mathlib.Core.Path.{◌∙◌}
use Rattle.panchanga.specs.TrueLongitudes.{first_edition}
use Rattle.panchanga.specs.OnDays.{true_moon_at}
use Rattle.panchanga.proofs.Answers.{first-edition}
use Rattle.host.proofs.OnNumbers.{on-number}
use Rattle.host.proofs.positions.graha_true_moon.Goals as goal

pub returns : goal.returns
returns c = c.unwrap_or.ensures ∙ on-number (true_moon_at first_edition) _ c.at.ensures (c.true_moon.ensures ∙ first-edition true_moon_at _)
