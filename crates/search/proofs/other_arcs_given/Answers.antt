-- `other_arcs_given` meets its contract: the arcs behind the first are those of the bodies but the Sun. The loop's
-- invariant: none passed are given.
use mathlib.Core.Path.{refl, sym, ap, ◌∙◌}
use native.Mathlib.Omega.{arith}
use lib.ListN.{take, drop}
use Rattle.std.proofs.lemmas.List.{take_all}
use Rattle.std.proofs.lemmas.List.Folds.{list_any_more, list_any_at}
use Rattle.std.specs.List.{list_any}
use Rattle.query.specs.Conditions.{arcs_given, no_arcs}
use Rattle.search.proofs.Others.{some-given}
use Rattle.search.proofs.other_arcs_given.Goals as goal

pub loop-of_body-init : goal.loop-of_body-init
loop-of_body-init c = refl

pub returns-then-given : goal.returns-then-given
returns-then-given c =
    sym (list_any_at (λ a. arcs_given a) (take 8 (drop 1 c.args.arcs)) c.loop-of_body.of_body-index no_arcs c.loop-of_body-test.true (sym c.given.ensures ∙ c.if-given.true))
    ∙ some-given c.args.arcs (omega arith)

pub loop-of_body-preserved : goal.loop-of_body-preserved
loop-of_body-preserved c =
    list_any_more (λ a. arcs_given a) (take 8 (drop 1 c.args.arcs)) c.loop-of_body.of_body-index no_arcs c.loop-of_body-test.true
    ∙ rw (c.loop-of_body.invariant, sym c.given.ensures, c.if-given.false) refl

pub returns : goal.returns
returns c =
    sym c.loop-of_body.invariant
    ∙ ap (list_any (λ a. arcs_given a)) (take_all c.loop-of_body.of_body-index (take 8 (drop 1 c.args.arcs)) c.loop-of_body-test.false)
    ∙ some-given c.args.arcs (omega arith)
