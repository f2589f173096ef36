-- A planet of a day is what the mean Sun and its own number among the nine bodies give; and the laws of the five
-- together.
-- Assumes nothing.
use mathlib.Core.Bool.{true, false}
use mathlib.Core.List.{[], ◌∷◌, ◌++◌}
use mathlib.Core.Path.{◌≡◌, refl, ◌∙◌}
use Prim.Native.Nat.{ℕ, zero, suc, ◌+◌, ◌≤◌}
use native.Mathlib.Omega.{arith}
use lib.ListN.{get_or}
use Rattle.days.specs.declared.Day.{Day}
use Rattle.longitudes.specs.Longitudes.{difference_of, longitude_at}
use Rattle.planets.specs.Tables.{PlanetRow, row_of}
use Rattle.planets.specs.Steps.{sighra_size, manda_size, half_corrected, manda_anomaly, manda_corrected, second_anomaly, true_planet}
use Rattle.planets.specs.OnDays.{is_inner, mean_planet, first_anomaly, true_planet_at, true_planets_at}
use Rattle.planets.proofs.Lines.{line-behind}

-- the rows as the code has them, with a 0 behind the last entry, give the same
abbrev with_zero : PlanetRow → PlanetRow
with_zero r = record { sighra = r.sighra ++ (0 ∷ []); manda = r.manda ++ (0 ∷ []); apogee = r.apogee }

same-planet : (r : PlanetRow) (mean first : ℕ) → true_planet (with_zero r) mean first ≡ true_planet r mean first
unfolding half_corrected manda_anomaly manda_corrected second_anomaly true_planet sighra_size manda_size
same-planet r mean first = simp line-behind

module _ (p sun own : ℕ) (d : Day) (s : sun ≡ longitude_at 0 d) (o : own ≡ longitude_at (4 + p) d) where
  pub outer-planet : is_inner p ≡ false → true_planet (row_of p) own (difference_of sun own) ≡ true_planet_at p d
  unfolding true_planet_at mean_planet first_anomaly
  outer-planet i = rw (i, s, o)

  pub inner-planet : is_inner p ≡ true → true_planet (row_of p) sun own ≡ true_planet_at p d
  unfolding true_planet_at mean_planet first_anomaly
  inner-planet i = rw (i, s, o)

  -- and so by the rows as the code has them
  pub outer-lent : is_inner p ≡ false → true_planet (with_zero (row_of p)) own (difference_of sun own) ≡ true_planet_at p d
  outer-lent i = same-planet (row_of p) own (difference_of sun own) ∙ outer-planet i

  pub inner-lent : is_inner p ≡ true → true_planet (with_zero (row_of p)) sun own ≡ true_planet_at p d
  inner-lent i = same-planet (row_of p) sun own ∙ inner-planet i

-- behind the five there is nothing
pub five-beyond : (d : Day) (k : ℕ) → 5 ≤ k → get_or (true_planets_at d) k 0 ≡ 0
unfolding true_planets_at
five-beyond d zero h = absurd (omega arith)
five-beyond d (suc zero) h = absurd (omega arith)
five-beyond d (suc (suc zero)) h = absurd (omega arith)
five-beyond d (suc (suc (suc zero))) h = absurd (omega arith)
five-beyond d (suc (suc (suc (suc zero)))) h = absurd (omega arith)
five-beyond d (suc (suc (suc (suc (suc k))))) h = refl
