-- What only contracts of private functions speak of: the Moon of a day before its edition is asked for, what an edition
-- makes of it, and the editions as kinds.
-- Assumes nothing.
use Rattle.std.specs.Prelude.{cond, ℕ, ◌/◌, eqb, Result, Ok, Err}
use Rattle.days.specs.declared.Day.{Day}
use Rattle.days.specs.declared.refusal.Refusal.{Refusal}
use Rattle.days.specs.declared.refusal.Refusal.TheVariants.{BadEdition}
use Rattle.longitudes.specs.declared.Body.TheVariants.{Moon, MoonApogee}
use Rattle.longitudes.specs.Longitudes.{longitude_at}
use Rattle.longitudes.specs.Answers.{body_number}
use Rattle.panchanga.specs.declared.Edition.{Edition}
use Rattle.panchanga.specs.declared.Edition.TheVariants.{First, Second}
use Rattle.panchanga.specs.TrueLongitudes.{corrected, sun_anomaly, sun_equation, first_edition, second_edition, is_edition, moon_alone}
use Rattle.panchanga.specs.OnDays.{in_edition}

-- with its own equation alone
abbrev pub moon_alone_at : Day → ℕ
moon_alone_at d = moon_alone (longitude_at (body_number MoonApogee) d) (longitude_at (body_number Moon) d)

-- of a Moon with its own equation and a mean Sun
abbrev pub moon_in : ℕ → ℕ → ℕ → ℕ
moon_in e moon sun = cond (eqb e second_edition) (corrected moon (sun_anomaly sun) (sun_equation sun / 27)) moon

abbrev pub edition_number : Edition → ℕ
edition_number First = first_edition
edition_number Second = second_edition

-- the edition of a number that is one
abbrev pub the_edition : ℕ → Edition
the_edition e = cond (eqb e second_edition) Second First

unfoldable pub edition_of : ℕ → Result Edition Refusal
edition_of e = cond (is_edition e) (Ok (the_edition e)) (Err BadEdition)

-- and where a day is asked for with it
abbrev pub edition_at : ℕ → Day → Edition
edition_at e d = the_edition e

abbrev pub edition_on : ℕ → Day → Result Edition Refusal
edition_on e d = in_edition edition_at e d
