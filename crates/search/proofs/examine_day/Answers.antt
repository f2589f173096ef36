-- `examine_day` meets its contract: a visited day is one; inside the Sun's arcs, or where none is given, it is as
-- `within` says, and outside them it does not match.
use mathlib.Core.Path.{sym, ◌∙◌}
use native.Mathlib.Omega.{arith}
use Prim.Native.Nat.{◌<◌}
use Rattle.days.proofs.Laws.{ThatDay, day-of, that-day}
use Rattle.longitudes.specs.Longitudes.{circle}
use Rattle.longitudes.proofs.Answers.{longitude-given, given-seconds}
use Rattle.query.specs.Query.{sun_arcs}
use Rattle.query.proofs.Accepted.{accepted-by}
use Rattle.query.proofs.TrueBodies.{is-given}
use Rattle.search.specs.Look.{sun_on}
use Rattle.search.specs.Parts.{Approached}
use Rattle.search.proofs.Arc.{ahead-low, no-arcs, within-sun}
use Rattle.search.proofs.Look.{span-low, outside, within-arcs}
use Rattle.search.proofs.examine_day.Goals as goal
use Rattle.search.proofs.examine_day.Goals.{After-nearer, After-unwrap-pair, In-Some}

day : (c : After-unwrap-pair) → ThatDay c.args.visit.day c.unwrap-pair.result
day c = that-day _ (sym c.unwrap-pair.ensures ∙ c.from_number.ensures)

found : (c : After-nearer) → Approached (sun_arcs c.args.query) (sun_on c.args.visit.day) c.nearer.result
found c =
    let sun = given-seconds _ _ (sym c.unwrap-sun.ensures ∙ c.mean_longitude.ensures) in
    rw (sun, (that-day _ (sym c.unwrap-pair.ensures ∙ c.from_number.ensures)).pair) at c.nearer.ensures

low : (c : In-Some) → c.in-Some.ahead < circle
low c = ahead-low _ _ _ c.in-Some.ensures

pub unwrap-pair-requires : goal.unwrap-pair-requires
unwrap-pair-requires c = is-given (c.from_number.ensures ∙ day-of _ (span-low _ _ c.requires.query_value c.requires.day_value))

pub within-requires-clause-known : goal.within-requires-clause-known
within-requires-clause-known c =
    let k = day (goal.at.within-requires-clause-known c).After-unwrap-pair in
    ((accepted-by _ c.requires.query_value).edition, k.range, k.number)

pub returns-then-not-given : goal.returns-then-not-given
returns-then-not-given c =
    let k = day (goal.at.returns-then-not-given c).After-unwrap-pair in
    c.within.ensures ∙ within-arcs _ _ c.requires.query_value c.requires.day_value k.pair (no-arcs _ _ (sym c.given.ensures ∙ c.if-not-given.true))

pub unwrap-sun-requires : goal.unwrap-sun-requires
unwrap-sun-requires c = is-given (c.mean_longitude.ensures ∙ longitude-given _ _ (day (goal.at.unwrap-sun-requires c).After-unwrap-pair).range)

pub nearer-requires : goal.nearer-requires
nearer-requires c = ((accepted-by _ c.requires.query_value).sun, sym c.given.ensures ∙ c.if-not-given.false)

pub within-requires-in-None-clause-known : goal.within-requires-in-None-clause-known
within-requires-in-None-clause-known c =
    let k = day (goal.at.within-requires-in-None-clause-known c).After-unwrap-pair in
    ((accepted-by _ c.requires.query_value).edition, k.range, k.number)

pub overflow_add-result : goal.overflow_add-result
overflow_add-result c = omega (arith, low (goal.at.overflow_add-result c).In-Some)

pub overflow_add-result-in-Some : goal.overflow_add-result-in-Some
overflow_add-result-in-Some c = omega (arith, low (goal.at.overflow_add-result-in-Some c).In-Some, (day (goal.at.overflow_add-result-in-Some c).After-unwrap-pair).number)

pub returns-in-None : goal.returns-in-None
returns-in-None c =
    let k = day (goal.at.returns-in-None c).After-unwrap-pair in
    c.within-in-None.ensures
    ∙ within-arcs _ _ c.requires.query_value c.requires.day_value k.pair (within-sun _ _ (rw c.in-None.is at (found (goal.at.returns-in-None c).After-nearer)))

pub returns-in-Some : goal.returns-in-Some
returns-in-Some c = outside _ _ _ c.requires.query_value c.requires.day_value (rw c.in-Some.is at (found (goal.at.returns-in-Some c).After-nearer))
