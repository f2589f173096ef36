-- `element_front` meets its contract: what is put one after another is put at once, and it fits. Assumes nothing.
use mathlib.Core.List.{append_assoc}
use native.Mathlib.Omega.{arith}
use Rattle.text.proofs.Lines.{with-bytes-append}
use Rattle.text.proofs.Holding.{holds}
use Rattle.explanation.specs.Elements.{element_front}
use Rattle.explanation.proofs.Elements.{front-short}
use Rattle.explanation.proofs.element_front.Goals as goal

pub returns : goal.returns
unfolding element_front
returns c =
    holds _ _ (omega (arith, front-short c.args.kind _ c.requires))
    (rw (c.text.ensures, c.put_word.ensures, c.text-unfit.ensures, c.put_day.ensures, c.empty.ensures)
    (simp (with-bytes-append, append_assoc)))
