-- `element_end` meets its contract: what is put one after another is put at once, and it fits. Assumes nothing.
use mathlib.Core.List.{append_assoc}
use native.Mathlib.Omega.{arith}
use Rattle.text.proofs.Lines.{with-byte-is, with-bytes-append}
use Rattle.text.proofs.Holding.{holds}
use Rattle.explanation.specs.Elements.{element_end}
use Rattle.explanation.proofs.Elements.{end_short}
use Rattle.explanation.proofs.element_end.Goals as goal

pub returns : goal.returns
unfolding element_end
returns c =
    let a = c.args in
    holds _ _ (omega (arith, end_short a.kind a.edition a.found))
    (rw (c.byte.ensures, c.with_edition.ensures, c.put_name-named.ensures, c.text.ensures, c.empty.ensures)
    (simp (with-byte-is, with-bytes-append, append_assoc)))
