-- `fault_line` meets its contract: what is put one after another is put at once, and it fits. Assumes nothing.
use mathlib.Core.List.{append_assoc}
use native.Mathlib.Omega.{arith}
use Rattle.text.proofs.Lines.{with-bytes-append}
use Rattle.text.proofs.Holding.{holds}
use Rattle.conversion.specs.Conversion.{fault_line}
use Rattle.conversion.proofs.Fitting.{fault-fits}
use Rattle.conversion.proofs.fault_line.Goals as goal

pub returns : goal.returns
unfolding fault_line
returns c = holds _ _ (fault-fits _ _ _ (omega arith)) (rw (c.with_fault.ensures, c.text-place.ensures, c.wide_number.ensures, c.text.ensures, c.empty.ensures) (simp (with-bytes-append, append_assoc)))
