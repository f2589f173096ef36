-- `true_arcs_have` meets its contract: no edition decides, then a pair out of range, then whether an arc is given.
use mathlib.Core.Bool.{true, and-false}
use mathlib.Core.Path.{◌≡◌, ap, sym, ◌∙◌}
use Rattle.days.specs.Days.{in_range}
use Rattle.panchanga.specs.TrueLongitudes.{is_edition}
use Rattle.query.specs.Conditions.{given_arcs, in_some, in_arcs}
use Rattle.query.proofs.true_arcs_have.Goals as goal
use Rattle.query.proofs.true_arcs_have.Goals.{Else-not-known, Else-not-there}

edition : (c : Else-not-known) → is_edition c.args.edition ≡ true
edition c = sym c.is_edition-known.ensures ∙ c.if-not-known.false

day : (c : Else-not-there) → in_range c.args.day ≡ true
day c = sym c.in_range-there.ensures ∙ c.if-not-there.false

pub returns-then-not-known : goal.returns-then-not-known
returns-then-not-known c = rw (sym c.is_edition-known.ensures ∙ c.if-not-known.true)

pub returns-then-not-there : goal.returns-then-not-there
returns-then-not-there c = rw (sym c.in_range-there.ensures ∙ c.if-not-there.true) (sym (and-false (is_edition c.args.edition)))

pub true_on-found-requires : goal.true_on-found-requires
true_on-found-requires c = (day (goal.at.true_on-found-requires c).Else-not-there, edition (goal.at.true_on-found-requires c).Else-not-known)

pub returns-then-given : goal.returns-then-given
unfolding in_arcs
returns-then-given c =
    let t = edition (goal.at.returns-then-given c).Else-not-known in
    let r = day (goal.at.returns-then-given c).Else-not-there in
    c.have.ensures
    ∙ ap (in_some (given_arcs c.args.arcs)) c.true_on-found.ensures
    ∙ rw (t, r, sym c.given.ensures ∙ c.if-given.true)

pub returns-else-given : goal.returns-else-given
unfolding in_arcs
returns-else-given c = rw (edition (goal.at.returns-else-given c).Else-not-known, day (goal.at.returns-else-given c).Else-not-there, sym c.given.ensures ∙ c.if-given.false)
