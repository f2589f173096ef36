-- `true_on` meets its contract: each body has its call, which a day in range and an edition are not refused by.
use mathlib.Core.Path.{sym, ap, ◌∙◌}
use Rattle.days.proofs.Laws.{given, told}
use Rattle.panchanga.specs.OnDays.{true_sun_at, true_moon_at}
use Rattle.panchanga.proofs.Answers.{answered, given-in}
use Rattle.planets.specs.OnDays.{true_planet_at}
use Rattle.query.specs.TrueBodies.{true_number}
use Rattle.query.proofs.TrueBodies.{is-given, sun-told, moon-told, planet-told}
use Rattle.query.proofs.true_on.Goals as goal

pub unwrap-requires : goal.unwrap-requires
unwrap-requires c = is-given (c.true_sun.ensures ∙ given true_sun_at _ c.requires.0)

pub returns-in-Sun : goal.returns-in-Sun
returns-in-Sun c = (told true_sun_at _ (sym c.unwrap.ensures ∙ c.true_sun.ensures)).value ∙ sun-told _ _ _ c.in-Sun.is

pub unwrap-requires-in-Moon : goal.unwrap-requires-in-Moon
unwrap-requires-in-Moon c = is-given (c.true_moon.ensures ∙ answered true_moon_at _ _ (record { edition = c.requires.1; range = c.requires.0 }))

pub returns-in-Moon : goal.returns-in-Moon
returns-in-Moon c = given-in true_moon_at _ _ (sym c.unwrap-in-Moon.ensures ∙ c.true_moon.ensures) ∙ moon-told _ _ _ c.in-Moon.is

pub unwrap-requires-in-Mars : goal.unwrap-requires-in-Mars
unwrap-requires-in-Mars c = is-given (c.true_longitude.ensures ∙ given (true_planet_at 0) _ c.requires.0)

pub returns-in-Mars : goal.returns-in-Mars
returns-in-Mars c = (told (true_planet_at 0) _ (sym c.unwrap-in-Mars.ensures ∙ c.true_longitude.ensures)).value ∙ planet-told _ c.args.body _ 0 (ap true_number c.in-Mars.is)

pub unwrap-requires-in-Mercury : goal.unwrap-requires-in-Mercury
unwrap-requires-in-Mercury c = is-given (c.true_longitude-in-Mercury.ensures ∙ given (true_planet_at 1) _ c.requires.0)

pub returns-in-Mercury : goal.returns-in-Mercury
returns-in-Mercury c = (told (true_planet_at 1) _ (sym c.unwrap-in-Mercury.ensures ∙ c.true_longitude-in-Mercury.ensures)).value ∙ planet-told _ c.args.body _ 1 (ap true_number c.in-Mercury.is)

pub unwrap-requires-in-Jupiter : goal.unwrap-requires-in-Jupiter
unwrap-requires-in-Jupiter c = is-given (c.true_longitude-in-Jupiter.ensures ∙ given (true_planet_at 2) _ c.requires.0)

pub returns-in-Jupiter : goal.returns-in-Jupiter
returns-in-Jupiter c = (told (true_planet_at 2) _ (sym c.unwrap-in-Jupiter.ensures ∙ c.true_longitude-in-Jupiter.ensures)).value ∙ planet-told _ c.args.body _ 2 (ap true_number c.in-Jupiter.is)

pub unwrap-requires-in-Venus : goal.unwrap-requires-in-Venus
unwrap-requires-in-Venus c = is-given (c.true_longitude-in-Venus.ensures ∙ given (true_planet_at 3) _ c.requires.0)

pub returns-in-Venus : goal.returns-in-Venus
returns-in-Venus c = (told (true_planet_at 3) _ (sym c.unwrap-in-Venus.ensures ∙ c.true_longitude-in-Venus.ensures)).value ∙ planet-told _ c.args.body _ 3 (ap true_number c.in-Venus.is)

pub unwrap-requires-in-Saturn : goal.unwrap-requires-in-Saturn
unwrap-requires-in-Saturn c = is-given (c.true_longitude-in-Saturn.ensures ∙ given (true_planet_at 4) _ c.requires.0)

pub returns-in-Saturn : goal.returns-in-Saturn
returns-in-Saturn c = (told (true_planet_at 4) _ (sym c.unwrap-in-Saturn.ensures ∙ c.true_longitude-in-Saturn.ensures)).value ∙ planet-told _ c.args.body _ 4 (ap true_number c.in-Saturn.is)
