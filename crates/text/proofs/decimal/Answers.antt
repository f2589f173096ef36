-- `text::decimal` meets its contract: what `Written` says holds before each digit is written. Assumes nothing.
use native.Mathlib.Omega.{arith}
use lib.ListN.{length-set}
use Rattle.text.proofs.Backwards.{written_start, written-room, written_next, written-end}
use Rattle.text.proofs.decimal.Goals as goal

pub loop-rest-init : goal.loop-rest-init
loop-rest-init c = written_start _ (omega arith)

pub overflow_sub-from : goal.overflow_sub-from
overflow_sub-from c = written-room _ _ _ _ c.loop-rest.invariant (omega arith)

pub loop-rest-preserved : goal.loop-rest-preserved
loop-rest-preserved c = written_next _ _ _ _ c.loop-rest.invariant (omega arith)

pub returns : goal.returns
returns c = (simp length-set c.loop-rest.invariant.size, c.loop-rest.invariant.room, written-end _ _ _ _ c.loop-rest.invariant c.loop-rest-test.false)
