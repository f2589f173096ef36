-- `nakshatra_met` meets its contract: the nakshatra of a day in range is not refused.
use mathlib.Core.Path.{sym, ap, ◌∙◌}
use Rattle.panchanga.specs.OnDays.{nakshatra_at}
use Rattle.panchanga.proofs.Answers.{answered, given-in}
use Rattle.query.specs.Conditions.{meets, has_number}
use Rattle.query.proofs.TrueBodies.{is-given}
use Rattle.query.proofs.nakshatra_met.Goals as goal

pub unwrap-found-requires : goal.unwrap-found-requires
unwrap-found-requires c = is-given (c.nakshatra.ensures ∙ answered nakshatra_at _ _ (record { edition = c.requires.1; range = c.requires.0 }))

pub returns-then-asked : goal.returns-then-asked
unfolding meets
returns-then-asked c =
    c.has.ensures
    ∙ ap (has_number c.args.asked.set) (given-in nakshatra_at _ _ (sym c.unwrap-found.ensures ∙ c.nakshatra.ensures))
    ∙ rw c.if-asked.true

pub returns-else-asked : goal.returns-else-asked
unfolding meets
returns-else-asked c = rw c.if-asked.false
