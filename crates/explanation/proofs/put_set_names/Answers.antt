-- `put_set_names` meets its contract. The loop's invariant: with the names from this number on, the buffer is the whole
-- (Naming). Assumes nothing.
use Prim.Native.Nat.{◌+◌}
use mathlib.Core.Path.{ap, ◌∙◌}
use native.Mathlib.Omega.{arith}
use lib.ListN.{length}
use Rattle.text.specs.Sheets.{put_at}
use Rattle.explanation.proofs.Elements.{naming-start, one-room, naming-next, naming-end, held-length}
use Rattle.explanation.proofs.put_set_names.Goals as goal

pub loop-element-init : goal.loop-element-init
loop-element-init c = naming-start _ _ _ _ c.requires

pub put-at-requires : goal.put-at-requires
put-at-requires c =
    let held = c.element_in.ensures in
    (held-length held, omega (arith, ap length held.whole, one-room _ _ _ _ c.requires _ _ _ c.loop-element.invariant c.loop-element-test.true))

pub loop-element-preserved : goal.loop-element-preserved
loop-element-preserved c =
    let held = c.element_in.ensures in
    naming-next _ _ _ _ c.requires _ _ _ c.loop-element.invariant _ _ (omega arith)
    (c.put-at.ensures.value ∙ ap (λ bs. c.loop-element.at + length bs) held.whole)
    (c.put-at.ensures.buffer_after ∙ ap (put_at c.loop-element.buffer c.loop-element.at) held.whole)

pub shape_of-buffer : goal.shape_of-buffer
shape_of-buffer c = c.loop-element.invariant.size

pub returns : goal.returns
returns c = let both = naming-end _ _ _ _ c.requires _ _ _ c.loop-element.invariant (omega arith) in record { value = both.0; buffer_after = both.1 }
