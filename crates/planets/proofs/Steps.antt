-- The steps as the code takes them are the meaning's: each signed correction is a number of seconds forwards.
-- Assumes nothing.
use mathlib.Core.Path.{◌≡◌, sym, ap, ◌∙◌}
use Prim.Native.Nat.{ℕ, ◌+◌, ◌/◌, ◌%◌}
use lib.IntN.{pos, ◌-ℤ◌}
use Rattle.integers.specs.Integers.{reduced}
use Rattle.longitudes.specs.Longitudes.{circle, difference_of}
use Rattle.panchanga.specs.TrueLongitudes.{signed, corrected}
use Rattle.planets.specs.Tables.{PlanetRow}
use Rattle.planets.specs.Steps.{sighra_size, manda_size, half_corrected, manda_anomaly, manda_corrected, second_anomaly, true_planet}
use Rattle.planets.specs.Parts.{SignedBy}

-- what a planet's three corrections come to
pub record Stepped (p : PlanetRow) (mean first half anomaly manda second whole : ℕ) : Type 0 where
  pub half-signed : SignedBy first (sighra_size p first / 2) half
  pub anomaly-is : anomaly ≡ difference_of p.apogee ((mean + half) % circle)
  pub manda-signed : SignedBy anomaly (manda_size p anomaly) manda
  pub second_is : second ≡ difference_of first manda
  pub whole-signed : SignedBy second (sighra_size p second) whole

pub steps : {p : PlanetRow} {mean first half anomaly manda second whole : ℕ} → Stepped p mean first half anomaly manda second whole → ((mean + manda) % circle + whole) % circle ≡ true_planet p mean first
unfolding half_corrected manda_anomaly manda_corrected second_anomaly true_planet
steps {p} {mean} {first} {half} {anomaly} {manda} {second} {whole} s =
    let at : anomaly ≡ manda_anomaly p mean first = s.anomaly-is ∙ ap (difference_of p.apogee) (sym (s.half-signed.added mean)) in
    let place : (mean + manda) % circle ≡ manda_corrected p mean first = sym (s.manda-signed.added mean) ∙ ap (λ (a : ℕ). corrected mean a (manda_size p a)) at in
    let again : second ≡ second_anomaly p mean first = s.second_is ∙ sym (s.manda-signed.lessened first) ∙ ap (λ (a : ℕ). reduced (pos first -ℤ signed a (manda_size p a)) circle) at in
    sym (s.whole-signed.added ((mean + manda) % circle))
    ∙ ap (λ (m : ℕ). corrected m second (sighra_size p second)) place
    ∙ ap (λ (x : ℕ). corrected (manda_corrected p mean first) x (sighra_size p x)) again
