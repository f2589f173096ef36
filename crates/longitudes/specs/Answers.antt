-- What is handed back: the longitudes of a day in range, or the refusal of any other.
-- Assumes nothing.
use Rattle.std.specs.Prelude.{ℕ, Result}
use Rattle.days.specs.declared.Day.{Day}
use Rattle.days.specs.declared.refusal.Refusal.{Refusal}
use Rattle.days.specs.Days.{answer_on}
use Rattle.longitudes.specs.declared.Body.{Body}
use Rattle.longitudes.specs.declared.Body.TheVariants.{Sun, Moon, MoonApogee, MoonNode, Mars, MercuryAnomaly, Jupiter, VenusAnomaly, Saturn}
use Rattle.longitudes.specs.declared.MeanLongitude.{MeanLongitude}
use Rattle.longitudes.specs.declared.MeanLongitudes.{MeanLongitudes}
use Rattle.longitudes.specs.Longitudes.{longitude_at, remainder_at, divisor_at, thirds_at, longitudes_at, nine_thirds_at}

-- the body's number in the table
abbrev pub body_number : Body → ℕ
body_number Sun = 0
body_number Moon = 1
body_number MoonApogee = 2
body_number MoonNode = 3
body_number Mars = 4
body_number MercuryAnomaly = 5
body_number Jupiter = 6
body_number VenusAnomaly = 7
body_number Saturn = 8

-- the whole seconds of the body with the number b, the remainder and its divisor
abbrev pub the_longitude : ℕ → Day → MeanLongitude
the_longitude b d = record { seconds = longitude_at b d; remainder = remainder_at b d; divisor = divisor_at b }

unfoldable pub longitude_of : Body → Day → Result MeanLongitude Refusal
longitude_of b d = answer_on (the_longitude (body_number b)) d

abbrev pub thirds_of : Body → Day → Result ℕ Refusal
thirds_of b d = answer_on (thirds_at (body_number b)) d

-- of the nine, whole seconds and thirds
abbrev pub the_nine : Day → MeanLongitudes
the_nine d = record { longitudes = longitudes_at d; thirds = nine_thirds_at d }

unfoldable pub longitudes_of : Day → Result MeanLongitudes Refusal
longitudes_of d = answer_on the_nine d
