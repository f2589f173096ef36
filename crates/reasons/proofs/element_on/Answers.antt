-- `element_on` meets its contract: each element has its call, which a day in range and an edition are not refused by.
-- Assumes nothing.
use mathlib.Core.Path.{sym, ◌∙◌}
use Rattle.panchanga.specs.OnDays.{tithi_at, nakshatra_at, yoga_at, karana_at}
use Rattle.panchanga.proofs.Answers.{answered, given-in}
use Rattle.query.proofs.TrueBodies.{is-given}
use Rattle.reasons.specs.Parts.{element_at}
use Rattle.reasons.proofs.element_on.Goals as goal

pub unwrap-requires : goal.unwrap-requires
unwrap-requires c = is-given (c.tithi.ensures ∙ answered tithi_at _ _ (record { edition = c.requires.1; range = c.requires.0 }))

pub returns-in-Tithi : goal.returns-in-Tithi
unfolding element_at
returns-in-Tithi c = given-in tithi_at _ _ (sym c.unwrap.ensures ∙ c.tithi.ensures) ∙ rw c.in-Tithi.is

pub unwrap-requires-in-Nakshatra : goal.unwrap-requires-in-Nakshatra
unwrap-requires-in-Nakshatra c = is-given (c.nakshatra.ensures ∙ answered nakshatra_at _ _ (record { edition = c.requires.1; range = c.requires.0 }))

pub returns-in-Nakshatra : goal.returns-in-Nakshatra
unfolding element_at
returns-in-Nakshatra c = given-in nakshatra_at _ _ (sym c.unwrap-in-Nakshatra.ensures ∙ c.nakshatra.ensures) ∙ rw c.in-Nakshatra.is

pub unwrap-requires-in-Yoga : goal.unwrap-requires-in-Yoga
unwrap-requires-in-Yoga c = is-given (c.yoga.ensures ∙ answered yoga_at _ _ (record { edition = c.requires.1; range = c.requires.0 }))

pub returns-in-Yoga : goal.returns-in-Yoga
unfolding element_at
returns-in-Yoga c = given-in yoga_at _ _ (sym c.unwrap-in-Yoga.ensures ∙ c.yoga.ensures) ∙ rw c.in-Yoga.is

pub unwrap-requires-in-Karana : goal.unwrap-requires-in-Karana
unwrap-requires-in-Karana c = is-given (c.karana.ensures ∙ answered karana_at _ _ (record { edition = c.requires.1; range = c.requires.0 }))

pub returns-in-Karana : goal.returns-in-Karana
unfolding element_at
returns-in-Karana c = given-in karana_at _ _ (sym c.unwrap-in-Karana.ensures ∙ c.karana.ensures) ∙ rw c.in-Karana.is
