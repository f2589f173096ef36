-- A mean longitude by the body's number in paper 01's table.
-- Assumes nothing.
use Rattle.std.specs.Prelude.{cond, List, [], ◌∷◌, ℕ, leb, get_or, Result, Err}
use Rattle.days.specs.Days.{pair_at}
use Rattle.days.specs.declared.refusal.Refusal.{Refusal}
use Rattle.days.specs.declared.refusal.Refusal.TheVariants.{NoSuchBody}
use Rattle.longitudes.specs.declared.Body.{Body}
use Rattle.longitudes.specs.declared.Body.TheVariants.{Sun, Moon, MoonApogee, MoonNode, Mars, MercuryAnomaly, Jupiter, VenusAnomaly, Saturn}
use Rattle.longitudes.specs.declared.MeanLongitude.{MeanLongitude}
use Rattle.longitudes.specs.Answers.{longitude_of}

abbrev pub first_eight : List Body
first_eight = Sun ∷ Moon ∷ MoonApogee ∷ MoonNode ∷ Mars ∷ MercuryAnomaly ∷ Jupiter ∷ VenusAnomaly ∷ []

-- the body with a number from 0 to 8
unfoldable pub body_from : ℕ → Body
body_from n = get_or first_eight n Saturn

-- a body above 8 is refused, on any day
unfoldable pub bridge_longitude : ℕ → ℕ → Result MeanLongitude Refusal
bridge_longitude body day = cond (leb body 8) (longitude_of (body_from body) (pair_at day)) (Err NoSuchBody)
