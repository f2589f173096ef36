-- The query that also asks for the mean Sun, where the true Sun is asked for, has the same matching days: the span is
-- the query's, and each day meets its conditions exactly where it meets the query's own. Assumes nothing.
use mathlib.Core.Path.{◌≡◌, refl, ap, ◌∙◌}
use mathlib.Core.Bool.{Bool, true, false, cond}
use Rattle.entries.specs.Runs.{filtered}
use Rattle.query.specs.declared.Query.{Query}
use Rattle.query.specs.Query.{conditions_met, refusal_of}
use Rattle.query.specs.SunArcs.{only_true_sun, true_sun_arcs, wider_arcs, with_sun, with_sun_arcs}
use Rattle.query.proofs.SunArcs.{same-conditions}
use Rattle.search.specs.Days.{span, matching_days}
use Rattle.search.proofs.Single.{filtered-alike}

module _ (q : Query) where
  same_span : span (with_sun_arcs q) ≡ span q
  unfolding with_sun_arcs
  same_span = go (only_true_sun q)
    where
      go : (b : Bool) → span (cond b (with_sun q (wider_arcs (true_sun_arcs q))) q) ≡ span q
      go true = refl
      go false = refl

  -- THE LAW of the wider arcs: nothing is lost by them, and nothing comes to
  pub same-matching : refusal_of q ≡ 0 → matching_days (with_sun_arcs q) ≡ matching_days q
  unfolding matching_days
  same-matching e = filtered-alike (conditions_met (with_sun_arcs q)) (conditions_met q) (λ n. same-conditions q n e) (span (with_sun_arcs q)) ∙ ap (filtered (conditions_met q)) same_span
