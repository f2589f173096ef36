-- `seconds_remark` meets its contract: what is put one after another is put at once, and it fits. Assumes nothing.
use native.Mathlib.Omega.{arith}
use Rattle.remarks.proofs.Fitting.{seconds-fit}
use Rattle.remarks.proofs.Making.{four}
use Rattle.remarks.specs.Remarks.{seconds_text}
use Rattle.text.proofs.Holding.{holds}
use Rattle.text.proofs.Lines.{with-byte-is}
use Rattle.remarks.proofs.seconds_remark.Goals as goal

pub returns : goal.returns
unfolding seconds_text
returns c =
    holds _ _ (seconds-fit _ (omega arith) _ c.requires.0 _ _ c.requires.1 c.requires.2)
    (rw (c.byte.ensures, c.put_angle.ensures, c.text-said.ensures, c.with_arc.ensures, with-byte-is) (four _ _ _ _ _))
