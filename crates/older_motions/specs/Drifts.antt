-- What is handed back: for each of the three the largest distance over the days of a span and the first day that has
-- it; or the span's refusal.
-- Assumes nothing.
use Rattle.std.specs.Prelude.{List, ℕ, ◌+◌, ◌-◌, Result, Ok}
use Rattle.days.specs.declared.refusal.Refusal.{Refusal}
use Rattle.days.specs.Days.{days_from, answer_over}
use Rattle.older_motions.specs.declared.Farthest.{Farthest}
use Rattle.older_motions.specs.declared.Drifts.{Drifts}
use Rattle.older_motions.specs.OlderMotions.{OlderMotion, sun_motion, moon_motion, apogee_motion, divisor_of, distance_on, largest_over, first_with}

-- over the days from the first to the last, both counted
unfoldable pub farthest_over : OlderMotion → ℕ → ℕ → Farthest
farthest_over m first last =
    let span : List ℕ = days_from first (last + 1 - first) in
    let most : ℕ = largest_over (distance_on m) span in
    record { numerator = most; divisor = divisor_of m; day = first_with (distance_on m) most span }

-- none, where an answer is told in numbers
abbrev pub nothing : Farthest
nothing = record { numerator = 0; divisor = 0; day = 0 }

-- of the three
abbrev pub the_drifts : ℕ → ℕ → Drifts
the_drifts first last =
    record { sun = farthest_over sun_motion first last; moon = farthest_over moon_motion first last; apogee = farthest_over apogee_motion first last }

abbrev pub drifts_over : ℕ → ℕ → Result Drifts Refusal
drifts_over first last = answer_over first last (Ok (the_drifts first last))
