-- `mean_longitude` meets its contract: a number of the pair is the number of the day.
use mathlib.Core.Path.{ap, ◌∙◌}
use Rattle.std.specs.Result.{result_map_both}
use Rattle.days.specs.declared.refusal.Refusal.{Refusal}
use Rattle.longitudes.specs.declared.MeanLongitude.{MeanLongitude}
use Rattle.longitudes.specs.Longitudes.{longitude_at}
use Rattle.longitudes.specs.Answers.{body_number}
use Rattle.longitudes.proofs.Answers.{seconds-on-day}
use Rattle.host.proofs.OnNumbers.{on-number}
use Rattle.host.proofs.positions.mean_longitude.Goals as goal

pub returns-in-Ok : goal.returns-in-Ok
returns-in-Ok c =
    on-number (longitude_at (body_number c.args.body)) _ c.at.ensures
    (ap (result_map_both (λ (a : MeanLongitude). a.seconds) (λ (r : Refusal). r)) c.in-Ok.ensures ∙ seconds-on-day _ _)

pub returns-in-Err : goal.returns-in-Err
returns-in-Err c =
    on-number (longitude_at (body_number c.args.body)) _ c.at.ensures
    (ap (result_map_both (λ (a : MeanLongitude). a.seconds) (λ (r : Refusal). r)) c.in-Err.ensures ∙ seconds-on-day _ _)
