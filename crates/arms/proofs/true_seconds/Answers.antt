-- `true_seconds` meets its contract: each case is a body by its number, whose true longitude is what it is given.
-- Assumes nothing.
use mathlib.Core.Path.{◌≡◌, sym, ap, ◌∙◌}
use mathlib.Core.Logic.{◌⊎◌, inl, inr}
use Prim.Native.Nat.{◌≤◌, ◌<◌}
use native.Mathlib.Omega.{arith}
use Rattle.longitudes.specs.declared.Body.{Body}
use Rattle.longitudes.specs.declared.Body.TheVariants.{MoonApogee, MoonNode}
use Rattle.longitudes.specs.Answers.{body_number}
use Rattle.panchanga.specs.TrueLongitudes.{first_edition}
use Rattle.panchanga.specs.OnDays.{true_sun_at, true_moon_at}
use Rattle.panchanga.proofs.Answers.{first-edition}
use Rattle.planets.specs.OnDays.{true_planet_at}
use Rattle.arms.specs.Orders.{true_seconds_on}
use Rattle.arms.proofs.TrueSeconds.{sun-is, moon-is, mean-is, planet-is, given-as, is-given}
use Rattle.arms.proofs.true_seconds.Goals as goal

pub unwrap-requires : goal.unwrap-requires
unwrap-requires c = rw (c.true_sun.ensures ∙ is-given true_sun_at _ c.requires c.at-pair.ensures)

pub returns-in-Sun : goal.returns-in-Sun
returns-in-Sun c =
    rw c.in-Sun.is (given-as true_sun_at _ 0 (sun-is _) c.at-pair.ensures (sym c.unwrap.ensures ∙ c.true_sun.ensures))

pub unwrap-requires-in-Moon : goal.unwrap-requires-in-Moon
unwrap-requires-in-Moon c = rw (c.true_moon.ensures ∙ first-edition true_moon_at _ ∙ is-given (true_moon_at first_edition) _ c.requires c.at-pair.ensures)

pub returns-in-Moon : goal.returns-in-Moon
returns-in-Moon c =
    rw c.in-Moon.is (given-as (true_moon_at first_edition) _ 1 (moon-is _) c.at-pair.ensures (sym c.unwrap-in-Moon.ensures ∙ c.true_moon.ensures ∙ first-edition true_moon_at _))

-- the two of which there is the mean longitude alone
numbered : (b : Body) → (b ≡ MoonApogee) ⊎ (b ≡ MoonNode) → (2 ≤ body_number b) × (body_number b < 4)
numbered b (inl e) = rw e (omega arith, omega arith)
numbered b (inr e) = rw e (omega arith, omega arith)

pub returns-in-MoonApogee : goal.returns-in-MoonApogee
returns-in-MoonApogee c =
    let s = c.seconds_by.ensures in
    let body = c.steps_for.ensures in
    let n = numbered _ c.in-MoonApogee.is in
    (s.0 ∙ body.seconds _ c.requires ∙ sym (mean-is _ _ n.0 n.1), s.1)

pub unwrap-requires-in_default : goal.unwrap-requires-in_default
unwrap-requires-in_default c = rw (c.true_longitude.ensures ∙ is-given (true_planet_at _) _ c.requires c.at-pair.ensures)

pub returns-in_default : goal.returns-in_default
returns-in_default c = given-as (true_planet_at _) _ _ (ap (true_seconds_on _) c.planet_of.ensures ∙ planet-is _ _) c.at-pair.ensures (sym c.unwrap-in_default.ensures ∙ c.true_longitude.ensures)
