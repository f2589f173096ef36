-- Each correction is at most its row's largest entry, and each true longitude below a circle; the largest entries are
-- computed over the tables once.
-- Assumes nothing.
use mathlib.Core.List.{[], ◌∷◌, map}
use mathlib.Core.Path.{◌≡◌, refl}
use Prim.Native.Nat.{ℕ, ◌*◌, ◌≤◌, ◌<◌}
use native.Mathlib.Omega.{arith}
use Rattle.days.specs.declared.Day.{Day}
use Rattle.integers.proofs.Reduced.{reduced-small}
use Rattle.longitudes.specs.Longitudes.{circle}
use Rattle.panchanga.specs.TrueLongitudes.{corrected}
use Rattle.planets.specs.Tables.{tenth, sighra_table, manda_table, PlanetRow, largest}
use Rattle.planets.specs.Steps.{sighra_size, manda_size, true_planet}
use Rattle.planets.specs.OnDays.{true_planet_at}
use Rattle.planets.proofs.Lines.{line-most}

pub sighra-most : (p : PlanetRow) (x : ℕ) → sighra_size p x ≤ tenth * largest p.sighra
unfolding sighra_size
sighra-most p x = line-most _ _

pub manda-most : (p : PlanetRow) (x : ℕ) → manda_size p x ≤ tenth * largest p.manda
unfolding manda_size
manda-most p x = line-most _ _

-- the largest entries, Mars to Saturn, by computing them
pub sighra-largest : map largest sighra_table ≡ 400 ∷ 212 ∷ 108 ∷ 461 ∷ 57 ∷ []
unfolding sighra_table
sighra-largest = refl

pub manda-largest : map largest manda_table ≡ 130 ∷ 36 ∷ 57 ∷ 15 ∷ 93 ∷ []
unfolding manda_table
manda-largest = refl

pub true-planet-small : (p : PlanetRow) (mean first : ℕ) → true_planet p mean first < circle
unfolding true_planet corrected
true-planet-small p mean first = reduced-small _ circle (omega arith)

pub planet-small : (p : ℕ) (d : Day) → true_planet_at p d < circle
unfolding true_planet_at
planet-small p d = true-planet-small _ _ _
