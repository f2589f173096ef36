-- The five planets of a day, and what is handed back of them.
-- Assumes nothing.
use Rattle.std.specs.Prelude.{Bool, cond, ◌||◌, List, [], ◌∷◌, map, ℕ, ◌+◌, eqb, Result}
use Rattle.days.specs.declared.Day.{Day}
use Rattle.days.specs.declared.refusal.Refusal.{Refusal}
use Rattle.days.specs.Days.{answer_on}
use Rattle.longitudes.specs.declared.Body.TheVariants.{Sun, Mars}
use Rattle.longitudes.specs.Longitudes.{difference_of, longitude_at}
use Rattle.longitudes.specs.Answers.{body_number}
use Rattle.planets.specs.declared.Planet.{Planet}
use Rattle.planets.specs.declared.Planet.TheVariants as planet
use Rattle.planets.specs.Tables.{row_of}
use Rattle.planets.specs.Steps.{true_planet}

-- Mercury and Venus, of which the mean anomaly is known and no mean place
abbrev pub is_inner : ℕ → Bool
is_inner p = eqb p 1 || eqb p 3

-- of the mean Sun and what the nine bodies have of the planet, its mean place or its mean anomaly: the mean planet, for
-- Mercury and Venus the mean Sun
unfoldable pub mean_planet : ℕ → ℕ → ℕ → ℕ
mean_planet p sun own = cond (is_inner p) sun own

-- the first śīghra anomaly: the mean Sun less the planet, for Mercury and Venus their own
unfoldable pub first_anomaly : ℕ → ℕ → ℕ → ℕ
first_anomaly p sun own = cond (is_inner p) own (difference_of sun own)

-- the planet with the number p among the nine bodies, which have Mars fifth: its mean longitude, or its mean anomaly
abbrev pub own_at : ℕ → Day → ℕ
own_at p d = longitude_at (body_number Mars + p) d

unfoldable pub true_planet_at : ℕ → Day → ℕ
true_planet_at p d =
    let sun : ℕ = longitude_at (body_number Sun) d in
    let own : ℕ = own_at p d in
    true_planet (row_of p) (mean_planet p sun own) (first_anomaly p sun own)

unfoldable pub true_planets_at : Day → List ℕ
true_planets_at d = map (λ (p : ℕ). true_planet_at p d) (0 ∷ 1 ∷ 2 ∷ 3 ∷ 4 ∷ [])

-- a planet's number in the tables
abbrev pub planet_number : Planet → ℕ
planet_number planet.Mars = 0
planet_number planet.Mercury = 1
planet_number planet.Jupiter = 2
planet_number planet.Venus = 3
planet_number planet.Saturn = 4

abbrev pub true_planet_of : Planet → Day → Result ℕ Refusal
true_planet_of p d = answer_on (true_planet_at (planet_number p)) d

-- the five in their order
abbrev pub true_planets_of : Day → Result (List ℕ) Refusal
true_planets_of d = answer_on true_planets_at d
