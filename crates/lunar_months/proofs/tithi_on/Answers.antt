-- `tithi_on` meets its contract: the pair is the day's, and in range, so that its means are its own.
use mathlib.Core.Path.{◌≡◌, ◌∙◌}
use Rattle.std.specs.Prelude.{Ok}
use Rattle.days.proofs.Laws.{pair-in-range}
use Rattle.panchanga.proofs.Answers.{tithi-by-means}
use Rattle.lunar_months.specs.MonthStarts.{tithi_on}
use Rattle.lunar_months.proofs.tithi_on.Goals as goal
use Rattle.lunar_months.proofs.tithi_on.Goals.{After-tithi_of_means}

pub means_on-means-requires : goal.means_on-means-requires
means_on-means-requires c = rw c.at.ensures (pair-in-range _ c.requires.1)

found : (c : After-tithi_of_means) → c.tithi_of_means.result ≡ Ok (tithi_on c.args.edition c.args.day)
found c = c.tithi_of_means.ensures ∙ rw (c.means_on-means.ensures, c.at.ensures) (tithi-by-means _ _ c.requires.0)

pub unwrap-requires : goal.unwrap-requires
unwrap-requires c = rw (found (goal.at.unwrap-requires c).After-tithi_of_means)

pub returns : goal.returns
returns c = let f = found (goal.at.returns c).After-tithi_of_means in cc
