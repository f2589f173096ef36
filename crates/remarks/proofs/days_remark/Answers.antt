-- `days_remark` meets its contract: what is put one after another is put at once, and it fits. Assumes nothing.
use native.Mathlib.Omega.{arith}
use Rattle.remarks.proofs.Fitting.{days-fit}
use Rattle.remarks.proofs.Making.{eight}
use Rattle.remarks.specs.Remarks.{days_text}
use Rattle.text.proofs.Holding.{holds}
use Rattle.remarks.proofs.days_remark.Goals as goal

pub returns : goal.returns
unfolding days_text
returns c =
    holds _ _ (days-fit _ (omega arith) _ _ c.requires.0 c.requires.1)
    (rw (c.text-4.ensures, c.number.ensures, c.text-3.ensures, c.put_date.ensures, c.text-2.ensures, c.put_date-since.ensures, c.text.ensures, c.with_numbers-numbers.ensures, c.date_or_zeros-to.ensures, c.date_or_zeros-from.ensures)
    (eight _ _ _ _ _ _ _ _ _))
