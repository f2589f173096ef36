-- Worked cases, by computing the meaning: day 0, on which the books agree; a cycle's turn, where the Moon and its
-- apogee come nearer and the Sun goes on; the last day; and each refusal.
-- Assumes nothing.
use mathlib.Core.Path.{◌≡◌, refl}
use mathlib.Core.List.{[], ◌∷◌}
use Prim.Native.Nat.{ℕ, ◌-◌}
use Rattle.std.specs.Prelude.{Result, Ok, Err}
use Rattle.days.specs.declared.refusal.Refusal.{Refusal}
use Rattle.days.specs.declared.refusal.Refusal.TheVariants.{OutOfRange, LastBeforeFirst}
use Rattle.days.specs.Days.{days_from, answer_over}
use Rattle.integers.specs.Integers.{reduced}
use Rattle.longitudes.specs.Longitudes.{table}
use Rattle.older_motions.specs.declared.Farthest.{Farthest}
use Rattle.older_motions.specs.declared.Drifts.{Drifts}
use Rattle.older_motions.specs.OlderMotions.{sun_motion, moon_motion, apogee_motion, whole_circle, ahead_on, distance_on, largest_over, first_with}
use Rattle.older_motions.specs.Drifts.{farthest_over, drifts_over}

abbrev fraction : ℕ → ℕ → ℕ → Farthest
fraction numerator divisor day = record { numerator = numerator; divisor = divisor; day = day }

abbrev three : Farthest → Farthest → Farthest → Result Drifts Refusal
three sun moon apogee = Ok (record { sun = sun; moon = moon; apogee = apogee })

pub worked :
    drifts_over 0 0 ∷ drifts_over 4000 4030 ∷ drifts_over 401599 401599 ∷ []
    ≡ three (fraction 0 55227075750 0) (fraction 0 187772057550 0) (fraction 0 11045424796 0)
    ∷ three (fraction 684829602450 55227075750 4030) (fraction 10583455484250 187772057550 4015) (fraction 5380865387480 11045424796 4015)
    ∷ three (fraction 67976219891250 55227075750 401599) (fraction 891926461978200 187772057550 401599) (fraction 256409405211080 11045424796 401599)
    ∷ []
unfolding answer_over farthest_over distance_on ahead_on sun_motion moon_motion apogee_motion table reduced largest_over first_with days_from
worked = refl

-- 2 comes before 5
pub refused : drifts_over 0 401600 ∷ drifts_over 401600 0 ∷ drifts_over 5 4 ∷ [] ≡ Err OutOfRange ∷ Err OutOfRange ∷ Err LastBeforeFirst ∷ []
unfolding answer_over
refused = refl

-- on the last day the mean longitudes are behind: more than half a circle ahead, so that the distance is the way back
pub behind :
    ahead_on sun_motion 401599 ∷ ahead_on moon_motion 401599 ∷ ahead_on apogee_motion 401599 ∷ []
    ≡ (whole_circle sun_motion - 67976219891250) ∷ (whole_circle moon_motion - 891926461978200) ∷ (whole_circle apogee_motion - 256409405211080) ∷ []
unfolding ahead_on sun_motion moon_motion apogee_motion table reduced
behind = refl
