-- `all_in_range` meets its contract. The loop's invariant: the arcs passed are in range.
use mathlib.Core.Path.{refl, sym, ap, ◌∙◌}
use Rattle.std.proofs.lemmas.List.{take_all}
use Rattle.std.proofs.lemmas.List.Folds.{list_all_more}
use Rattle.std.specs.List.{list_all}
use Rattle.query.specs.Conditions.{body_arcs_in_range, no_arcs}
use Rattle.query.proofs.all_in_range.Goals as goal

pub loop-of_body-init : goal.loop-of_body-init
loop-of_body-init c = refl

pub loop-of_body-preserved : goal.loop-of_body-preserved
loop-of_body-preserved c =
    list_all_more body_arcs_in_range c.args.arcs.now c.loop-of_body.of_body-index no_arcs c.loop-of_body-test.true ∙ rw (c.loop-of_body.invariant, sym c.in_range.ensures, c.if-not-in_range.false) refl

pub returns : goal.returns
returns c = sym c.loop-of_body.invariant ∙ ap (list_all body_arcs_in_range) (take_all c.loop-of_body.of_body-index c.args.arcs.now c.loop-of_body-test.false)
