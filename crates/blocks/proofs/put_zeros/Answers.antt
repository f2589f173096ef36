-- `put_zeros` meets its contract: with the zeros left put too, the bytes are those with all of them.
use mathlib.Core.Path.{refl, ap, ◌∙◌}
use native.Mathlib.Omega.{arith}
use lib.ListN.{length}
use Rattle.entries.proofs.Laws.{with-entry-length}
use Rattle.blocks.proofs.Steps.{zero-again, zero-end}
use Rattle.blocks.proofs.put_zeros.Goals as goal

pub loop-i-init : goal.loop-i-init
loop-i-init c = (omega arith, refl, refl)

pub loop-i-preserved : goal.loop-i-preserved
loop-i-preserved c = (omega arith, ap length c.put_entry.ensures ∙ with-entry-length _ _ _ ∙ c.loop-i.invariant.1, zero-again _ _ _ _ _ _ (omega arith) c.put_entry.ensures c.loop-i.invariant.2)

pub shape_of-block : goal.shape_of-block
shape_of-block c = c.loop-i.invariant.1

pub returns : goal.returns
returns c = zero-end _ _ _ _ _ (omega arith) c.loop-i.invariant.2
