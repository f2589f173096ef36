-- Paper 02's tables of the five planets, in the order Mars, Mercury, Jupiter, Venus, Saturn, and the straight line
-- between their entries.
-- Assumes nothing.
use Rattle.std.specs.Prelude.{List, [], ◌∷◌, ℕ, ◌+◌, ◌*◌, ◌-◌, ◌/◌, ◌%◌, max, get_or}

-- fifteen degrees, from an entry to the next, and a tenth of a degree, in seconds of arc
abbrev pub spacing : ℕ
spacing = 54000

abbrev pub tenth : ℕ
tenth = 360

-- a correction's sizes in tenths of a degree, at 0 and every fifteen degrees on
abbrev pub Entries : Type 0
Entries = List ℕ

unfoldable pub sighra_table : List Entries
sighra_table =
    (0 ∷ 58 ∷ 117 ∷ 174 ∷ 228 ∷ 279 ∷ 325 ∷ 365 ∷ 393 ∷ 400 ∷ 368 ∷ 249 ∷ 0 ∷ [])
    ∷ (0 ∷ 41 ∷ 81 ∷ 117 ∷ 150 ∷ 178 ∷ 199 ∷ 212 ∷ 212 ∷ 195 ∷ 155 ∷ 89 ∷ 0 ∷ [])
    ∷ (0 ∷ 25 ∷ 47 ∷ 68 ∷ 85 ∷ 98 ∷ 106 ∷ 108 ∷ 102 ∷ 89 ∷ 66 ∷ 36 ∷ 0 ∷ [])
    ∷ (0 ∷ 63 ∷ 126 ∷ 186 ∷ 246 ∷ 302 ∷ 354 ∷ 402 ∷ 440 ∷ 461 ∷ 443 ∷ 326 ∷ 0 ∷ [])
    ∷ (0 ∷ 15 ∷ 28 ∷ 39 ∷ 48 ∷ 54 ∷ 57 ∷ 57 ∷ 53 ∷ 45 ∷ 33 ∷ 18 ∷ 0 ∷ [])
    ∷ []

unfoldable pub manda_table : List Entries
manda_table =
    (0 ∷ 29 ∷ 57 ∷ 85 ∷ 109 ∷ 124 ∷ 130 ∷ [])
    ∷ (0 ∷ 12 ∷ 21 ∷ 28 ∷ 33 ∷ 35 ∷ 36 ∷ [])
    ∷ (0 ∷ 14 ∷ 27 ∷ 39 ∷ 48 ∷ 55 ∷ 57 ∷ [])
    ∷ (0 ∷ 6 ∷ 11 ∷ 13 ∷ 14 ∷ 15 ∷ 15 ∷ [])
    ∷ (0 ∷ 19 ∷ 40 ∷ 60 ∷ 77 ∷ 89 ∷ 93 ∷ [])
    ∷ []

-- 120°, 210°, 180°, 90° and 240°
unfoldable pub planet_apogees : List ℕ
planet_apogees = 432000 ∷ 756000 ∷ 648000 ∷ 324000 ∷ 864000 ∷ []

-- what the tables have of a planet
pub record PlanetRow : Type 0 where
  pub sighra : Entries
  pub manda : Entries
  pub apogee : ℕ

-- of the planet with the number p, which is from 0 for Mars to 4 for Saturn
unfoldable pub row_of : ℕ → PlanetRow
row_of p = record { sighra = get_or sighra_table p []; manda = get_or manda_table p []; apogee = get_or planet_apogees p 0 }

-- the exact straight line from an entry to the next, so many seconds behind the first, rounded down to a second: each
-- counts by how near it is
unfoldable pub on_line : ℕ → ℕ → ℕ → ℕ
on_line entry next past = (entry * (spacing - past) + next * past) * tenth / spacing

-- the size at x seconds of arc; at an entry, so at the last one, that entry alone counts
unfoldable pub straight_line : Entries → ℕ → ℕ
straight_line row x = on_line (get_or row (x / spacing) 0) (get_or row (x / spacing + 1) 0) (x % spacing)

-- a row's largest entry
abbrev pub largest : Entries → ℕ
largest [] = 0
largest (e ∷ row) = max e (largest row)
