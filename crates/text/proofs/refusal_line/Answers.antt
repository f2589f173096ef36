-- `text::refusal_line` meets its contract: what is put one after another is put at once, and it fits. Assumes nothing.
use mathlib.Core.List.{append_assoc}
use native.Mathlib.Omega.{arith}
use Rattle.text.proofs.Lines.{with-byte-is, with-bytes-append}
use Rattle.text.specs.Lines.{refusal_line}
use Rattle.text.proofs.Holding.{holds, refusal-fits}
use Rattle.text.proofs.refusal_line.Goals as goal

pub returns : goal.returns
unfolding refusal_line
returns c =
    holds _ _ (refusal-fits _ (omega arith))
    (rw (c.byte.ensures, c.number.ensures, c.text.ensures, c.empty.ensures)
    (simp (with-byte-is, with-bytes-append, append_assoc)))
