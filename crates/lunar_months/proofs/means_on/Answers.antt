-- `means_on` meets its contract: a day in range is given each of them.
use mathlib.Core.Path.{sym, ◌∙◌}
use Rattle.longitudes.specs.declared.Body.TheVariants.{Sun, Moon, MoonApogee}
use Rattle.longitudes.proofs.Answers.{longitude-given, given-seconds}
use Rattle.lunar_months.proofs.means_on.Goals as goal

pub unwrap-sun-requires : goal.unwrap-sun-requires
unwrap-sun-requires c = rw (c.mean_longitude.ensures ∙ longitude-given _ _ c.requires)

pub unwrap-moon-requires : goal.unwrap-moon-requires
unwrap-moon-requires c = rw (c.mean_longitude-2.ensures ∙ longitude-given _ _ c.requires)

pub unwrap-apogee-requires : goal.unwrap-apogee-requires
unwrap-apogee-requires c = rw (c.mean_longitude-3.ensures ∙ longitude-given _ _ c.requires)

pub returns : goal.returns
returns c =
    rw (given-seconds MoonApogee _ (sym c.unwrap-apogee.ensures ∙ c.mean_longitude-3.ensures), given-seconds Moon _ (sym c.unwrap-moon.ensures ∙ c.mean_longitude-2.ensures), given-seconds Sun _ (sym c.unwrap-sun.ensures ∙ c.mean_longitude.ensures))
