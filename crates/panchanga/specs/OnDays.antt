-- True longitudes and panchanga elements of a day (paper 01's true places and limbs), and what is handed back of them.
-- What hangs on the Moon is of an edition.
-- Assumes nothing.
use Rattle.std.specs.Prelude.{cond, ℕ, ◌%◌, Result, Ok, Err}
use Rattle.days.specs.declared.Day.{Day}
use Rattle.days.specs.declared.refusal.Refusal.{Refusal}
use Rattle.days.specs.declared.refusal.Refusal.TheVariants.{BadEdition}
use Rattle.days.specs.Days.{answer_on}
use Rattle.longitudes.specs.declared.Body.TheVariants.{Sun, Moon, MoonApogee}
use Rattle.longitudes.specs.Longitudes.{circle, longitude_at}
use Rattle.longitudes.specs.Answers.{body_number}
use Rattle.panchanga.specs.declared.Lights.{Lights}
use Rattle.panchanga.specs.declared.Panchanga.{Panchanga}
use Rattle.panchanga.specs.TrueLongitudes.{true_sun, is_edition, true_moon}
use Rattle.panchanga.specs.Elements.{tithi, nakshatra, yoga, karana}

unfoldable pub true_sun_at : Day → ℕ
true_sun_at d = true_sun (longitude_at (body_number Sun) d)

-- in the edition e
unfoldable pub true_moon_at : ℕ → Day → ℕ
true_moon_at e d = true_moon e (longitude_at (body_number Sun) d) (longitude_at (body_number MoonApogee) d) (longitude_at (body_number Moon) d)

unfoldable pub tithi_at : ℕ → Day → ℕ
tithi_at e d = tithi (true_sun_at d) (true_moon_at e d)

unfoldable pub nakshatra_at : ℕ → Day → ℕ
nakshatra_at e d = nakshatra (true_moon_at e d)

unfoldable pub yoga_at : ℕ → Day → ℕ
yoga_at e d = yoga (true_sun_at d) (true_moon_at e d)

unfoldable pub karana_at : ℕ → Day → ℕ
karana_at e d = karana (true_sun_at d) (true_moon_at e d)

-- what is told of a day in an edition; another edition is refused before a day out of range
unfoldable pub in_edition : {A : Type 0} → (ℕ → Day → A) → ℕ → Day → Result A Refusal
in_edition f e d = cond (is_edition e) (answer_on (f e) d) (Err BadEdition)

-- the true Sun and Moon
abbrev pub lights_at : ℕ → Day → Lights
lights_at e d = record { sun = true_sun_at d; moon = true_moon_at e d }

abbrev pub lights_of : ℕ → Day → Result Lights Refusal
lights_of e d = in_edition lights_at e d

-- all of them
abbrev pub panchanga_at : ℕ → Day → Panchanga
panchanga_at e d = record { sun = true_sun_at d; moon = true_moon_at e d; tithi = tithi_at e d; nakshatra = nakshatra_at e d; yoga = yoga_at e d; karana = karana_at e d }

abbrev pub panchanga_of : ℕ → Day → Result Panchanga Refusal
panchanga_of e d = in_edition panchanga_at e d

-- the true Sun and Moon with their elements
abbrev pub the_panchanga : ℕ → ℕ → Panchanga
the_panchanga s m = record { sun = s; moon = m; tithi = tithi s m; nakshatra = nakshatra m; yoga = yoga s m; karana = karana s m }

-- all of them by the mean Sun, Moon and apogee, each less its whole circles
unfoldable pub panchanga_by : ℕ → ℕ → ℕ → ℕ → Result Panchanga Refusal
panchanga_by e sun moon apogee =
    cond (is_edition e)
    (Ok (the_panchanga (true_sun (sun % circle)) (true_moon e (sun % circle) (apogee % circle) (moon % circle))))
    (Err BadEdition)

-- the tithi alone by the mean Sun, Moon and apogee
unfoldable pub tithi_by : ℕ → ℕ → ℕ → ℕ → Result ℕ Refusal
tithi_by e sun moon apogee =
    cond (is_edition e)
    (Ok (tithi (true_sun (sun % circle)) (true_moon e (sun % circle) (apogee % circle) (moon % circle))))
    (Err BadEdition)

abbrev pub true_sun_of : Day → Result ℕ Refusal
true_sun_of d = answer_on true_sun_at d

abbrev pub true_moon_of : ℕ → Day → Result ℕ Refusal
true_moon_of e d = in_edition true_moon_at e d

abbrev pub tithi_of : ℕ → Day → Result ℕ Refusal
tithi_of e d = in_edition tithi_at e d

abbrev pub nakshatra_of : ℕ → Day → Result ℕ Refusal
nakshatra_of e d = in_edition nakshatra_at e d

abbrev pub yoga_of : ℕ → Day → Result ℕ Refusal
yoga_of e d = in_edition yoga_at e d

abbrev pub karana_of : ℕ → Day → Result ℕ Refusal
karana_of e d = in_edition karana_at e d
