-- `with_arcs` meets its contract: what is put one after another is put at once. Assumes nothing.
use Rattle.text.proofs.Lines.{with-bytes-append}
use Rattle.messages.specs.Messages.{arcs_take}
use Rattle.messages.proofs.with_arcs.Goals as goal

pub returns : goal.returns
unfolding arcs_take
returns c = rw (c.text-2.ensures, c.text.ensures) (with-bytes-append _ _ _)
