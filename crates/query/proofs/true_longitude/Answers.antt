-- `true_longitude` meets its contract: another edition is refused, then a pair out of range.
use mathlib.Core.Bool.{true}
use mathlib.Core.Path.{◌≡◌, sym, ap, ◌∙◌}
use Rattle.std.specs.Prelude.{Ok}
use Rattle.panchanga.specs.TrueLongitudes.{is_edition}
use Rattle.query.proofs.TrueBodies.{no-edition, no-day, on-day}
use Rattle.query.proofs.true_longitude.Goals as goal
use Rattle.query.proofs.true_longitude.Goals.{Else-not-known}

edition : (c : Else-not-known) → is_edition c.args.edition ≡ true
edition c = sym c.is_edition-known.ensures ∙ c.if-not-known.false

pub returns-then-not-known : goal.returns-then-not-known
returns-then-not-known c = no-edition _ _ _ (sym c.is_edition-known.ensures ∙ c.if-not-known.true)

pub true_on-requires : goal.true_on-requires
true_on-requires c = (sym c.in_range.ensures ∙ c.if-in_range.true, edition (goal.at.true_on-requires c).Else-not-known)

pub returns-then-in_range : goal.returns-then-in_range
returns-then-in_range c = ap Ok c.true_on.ensures ∙ on-day _ _ _ (edition (goal.at.returns-then-in_range c).Else-not-known) (sym c.in_range.ensures ∙ c.if-in_range.true)

pub returns-else-in_range : goal.returns-else-in_range
returns-else-in_range c = no-day _ _ _ (edition (goal.at.returns-else-in_range c).Else-not-known) (sym c.in_range.ensures ∙ c.if-in_range.false)
