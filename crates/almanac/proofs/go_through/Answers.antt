-- `go_through` meets its contract: going on from where the loop stands is going through the whole file.
use mathlib.Core.Path.{◌∙◌}
use Rattle.almanac.proofs.Through.{gone-start, gone-on, gone-end}
use Rattle.almanac.proofs.go_through.Goals as goal

pub loop-piece-init : goal.loop-piece-init
loop-piece-init c = (cc, gone-start _ _ _ c.start-reader.ensures (cc))

pub loop-piece-preserved : goal.loop-piece-preserved
loop-piece-preserved c =
    let steps = c.in-Some.ensures.steps in
    let size = c.loop-piece.invariant.0 in
    (steps.0 ∙ size, gone-on _ _ _ steps.1.0 (rw size at steps.1.1) _ _ _ steps.1.2 c.next-reader.ensures c.loop-piece.invariant.1)

pub returns : goal.returns
returns c = gone-end _ _ _ c.in-None.ensures.steps.1.0 c.loop-piece.invariant.1
