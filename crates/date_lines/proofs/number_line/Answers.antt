-- `number_line` meets its contract: what is put one after another is put at once, and it fits. Assumes nothing.
use native.Mathlib.Omega.{arith}
use Rattle.text.proofs.Lines.{with-byte-is, with-bytes-append}
use Rattle.text.proofs.Holding.{holds}
use Rattle.date_lines.specs.Lines.{line_of}
use Rattle.date_lines.proofs.Lines.{number_fits}
use Rattle.date_lines.proofs.number_line.Goals as goal

pub returns : goal.returns
unfolding line_of
returns c = holds _ _ (number_fits _ (omega arith)) (rw (c.byte.ensures, c.number.ensures, c.empty.ensures) (simp (with-byte-is, with-bytes-append)))
