-- `fault` meets its contract: what is put one after another is put at once, and it fits. Assumes nothing.
use mathlib.Core.List.{append_assoc}
use native.Mathlib.Omega.{arith}
use Rattle.text.proofs.Holding.{holds}
use Rattle.text.proofs.Lines.{with-bytes-append}
use Rattle.almanac_sheet.specs.AlmanacSheets.{fault_line}
use Rattle.almanac_sheet.proofs.Fitting.{fault-fits}
use Rattle.almanac_sheet.proofs.fault.Goals as goal

pub returns : goal.returns
unfolding fault_line
returns c =
    holds _ _ (fault-fits _ _ (omega arith))
    (rw (c.with_reason.ensures, c.text-place.ensures, c.number.ensures, c.text.ensures, c.empty.ensures) (simp (with-bytes-append, append_assoc)))
