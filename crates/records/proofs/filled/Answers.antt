-- `filled` meets its contract: the day's pair is in range, so that nothing is refused. Assumes nothing.
use mathlib.Core.Path.{◌≡◌, ap, ◌∙◌}
use Rattle.std.specs.Prelude.{Ok}
use Rattle.days.specs.Days.{pair_at}
use Rattle.days.proofs.Laws.{pair-in-range}
use Rattle.longitudes.specs.Longitudes.{longitudes_at}
use Rattle.panchanga.specs.OnDays.{panchanga_at}
use Rattle.records.proofs.Answers.{elements-found, record-found}
use Rattle.records.proofs.filled.Goals as goal
use Rattle.records.proofs.filled.Goals.{After-of_means}

pub nine_on-longitudes-requires : goal.nine_on-longitudes-requires
nine_on-longitudes-requires c = rw c.at-day.ensures (pair-in-range _ c.requires.1)

elements : (c : After-of_means) → c.of_means.result ≡ Ok (panchanga_at c.args.edition (pair_at c.args.number))
elements c = c.of_means.ensures ∙ elements-found _ _ c.requires.0 c.requires.1 (c.nine_on-longitudes.ensures ∙ ap longitudes_at c.at-day.ensures)

pub unwrap-elements-requires : goal.unwrap-elements-requires
unwrap-elements-requires c = rw (elements (goal.at.unwrap-elements-requires c).After-of_means)

pub returns : goal.returns
returns c =
    let e = elements (goal.at.returns c).After-of_means in
    let found : c.unwrap-elements.result ≡ panchanga_at c.args.edition (pair_at c.args.number) = cc in
    rw c.weekday_on.ensures (record-found _ _ (c.nine_on-longitudes.ensures ∙ ap longitudes_at c.at-day.ensures) found)
