-- `true_on` meets its contract: each case has its planet's rows, and the law of the planets with a mean place or of
-- those with a mean anomaly.
use mathlib.Core.Path.{refl, ◌∙◌}
use Rattle.planets.specs.Tables.{sighra_table, manda_table, planet_apogees, row_of}
use Rattle.planets.proofs.Answers.{outer-lent, inner-lent}
use Rattle.planets.proofs.true_on.Goals as goal

pub returns-in-Mars : goal.returns-in-Mars
unfolding row_of sighra_table manda_table planet_apogees
returns-in-Mars c = rw c.in-Mars.is (c.outer.ensures ∙ outer-lent 0 _ _ _ c.mean_on-sun.ensures.0 c.mean_on.ensures.0 refl)

pub returns-in-Mercury : goal.returns-in-Mercury
unfolding row_of sighra_table manda_table planet_apogees
returns-in-Mercury c = rw c.in-Mercury.is (c.true_planet.ensures ∙ inner-lent 1 _ _ _ c.mean_on-sun.ensures.0 c.mean_on-in-Mercury.ensures.0 refl)

pub returns-in-Jupiter : goal.returns-in-Jupiter
unfolding row_of sighra_table manda_table planet_apogees
returns-in-Jupiter c = rw c.in-Jupiter.is (c.outer-in-Jupiter.ensures ∙ outer-lent 2 _ _ _ c.mean_on-sun.ensures.0 c.mean_on-in-Jupiter.ensures.0 refl)

pub returns-in-Venus : goal.returns-in-Venus
unfolding row_of sighra_table manda_table planet_apogees
returns-in-Venus c = rw c.in-Venus.is (c.true_planet-in-Venus.ensures ∙ inner-lent 3 _ _ _ c.mean_on-sun.ensures.0 c.mean_on-in-Venus.ensures.0 refl)

pub returns-in-Saturn : goal.returns-in-Saturn
unfolding row_of sighra_table manda_table planet_apogees
returns-in-Saturn c = rw c.in-Saturn.is (c.outer-in-Saturn.ensures ∙ outer-lent 4 _ _ _ c.mean_on-sun.ensures.0 c.mean_on-in-Saturn.ensures.0 refl)
