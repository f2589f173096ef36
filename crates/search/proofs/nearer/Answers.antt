-- `nearer` meets its contract: in the leading arc, the only one, in the second, or before the nearer of two.
use mathlib.Core.Path.{◌≡◌, sym, ap, ◌∙◌}
use Rattle.query.specs.declared.Arc.{Arc}
use Rattle.std.specs.Prelude.{None}
use Rattle.search.specs.Parts.{leading_arc, approach_to}
use Rattle.search.proofs.Arc.{in-first, one-given, in-second, before-both}
use Rattle.search.proofs.nearer.Goals as goal
use Rattle.search.proofs.nearer.Goals.{After-to_arc}

first : (c : After-to_arc) → c.to_arc.result ≡ approach_to (leading_arc c.args.arcs) c.args.longitude
first c = c.to_arc.ensures ∙ ap (λ (a : Arc). approach_to a c.args.longitude) c.leading.ensures

pub returns-in_err-first : goal.returns-in_err-first
returns-in_err-first c =
    let none : c.from_residual.result ≡ None = cc in
    rw none (in-first _ _ c.requires.0 c.requires.1 (sym (first (goal.at.returns-in_err-first c).After-to_arc) ∙ c.in_err-first.was))

pub returns-then-not-both_given : goal.returns-then-not-both_given
returns-then-not-both_given c =
    one-given _ _ c.requires.0 c.requires.1 (sym (first (goal.at.returns-then-not-both_given c).After-to_arc) ∙ c.in_ok-first.was)
    (sym c.both_given.ensures ∙ c.if-not-both_given.true)

pub returns-in_err-second : goal.returns-in_err-second
returns-in_err-second c =
    let none : c.from_residual-in_err-second.result ≡ None = cc in
    rw none (in-second _ _ c.requires.0 c.requires.1 (sym (first (goal.at.returns-in_err-second c).After-to_arc) ∙ c.in_ok-first.was) (sym c.both_given.ensures ∙ c.if-not-both_given.false) (sym c.to_arc-2.ensures ∙ c.in_err-second.was))

pub returns : goal.returns
returns c =
    rw c.min.ensures
    (before-both _ _ c.requires.0 c.requires.1 (sym (first (goal.at.returns c).After-to_arc) ∙ c.in_ok-first.was) (sym c.both_given.ensures ∙ c.if-not-both_given.false) (sym c.to_arc-2.ensures ∙ c.in_ok-second.was))
