-- `width_remark` meets its contract: what is put one after another is put at once, and it fits. Assumes nothing.
use native.Mathlib.Omega.{arith}
use Rattle.remarks.proofs.Fitting.{width_fits}
use Rattle.remarks.proofs.Making.{four}
use Rattle.remarks.specs.Remarks.{width_text}
use Rattle.text.proofs.Holding.{holds}
use Rattle.remarks.proofs.width_remark.Goals as goal

pub returns : goal.returns
unfolding width_text
returns c =
    holds _ _ (width_fits _ (omega arith) _ c.requires.0 _ _ c.requires.1 c.requires.2)
    (rw (c.text.ensures, c.put_angle.ensures, c.text-said.ensures, c.with_arc.ensures) (four _ _ _ _ _))
