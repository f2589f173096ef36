-- The weekdays, the bodies and the true places by name.
-- Assumes nothing.
use Rattle.std.specs.Prelude.{List, [], ◌∷◌, ℕ}
use Rattle.text.specs.Ascii.{ascii}

abbrev pub weekday_names : List (List ℕ)
weekday_names =
    ascii "monday"
    ∷ ascii "tuesday"
    ∷ ascii "wednesday"
    ∷ ascii "thursday"
    ∷ ascii "friday"
    ∷ ascii "saturday"
    ∷ ascii "sunday"
    ∷ []

-- in the order of paper 01's table
abbrev pub body_names : List (List ℕ)
body_names =
    ascii "sun"
    ∷ ascii "moon"
    ∷ ascii "apogee"
    ∷ ascii "node"
    ∷ ascii "mars"
    ∷ ascii "mercury"
    ∷ ascii "jupiter"
    ∷ ascii "venus"
    ∷ ascii "saturn"
    ∷ []

-- the bodies whose true longitude may be asked for, in the order in which a query has them
abbrev pub true_names : List (List ℕ)
true_names =
    ascii "true_sun"
    ∷ ascii "true_moon"
    ∷ ascii "true_mars"
    ∷ ascii "true_mercury"
    ∷ ascii "true_jupiter"
    ∷ ascii "true_venus"
    ∷ ascii "true_saturn"
    ∷ []
