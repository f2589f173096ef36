-- `unreadable_page` meets its contract: its text fits a line. Assumes nothing.
use native.Mathlib.Omega.{arith}
use Rattle.text.proofs.Holding.{holds}
use Rattle.messages.specs.Messages.{unreadable_page}
use Rattle.messages.proofs.unreadable_page.Goals as goal

pub returns : goal.returns
unfolding unreadable_page
returns c = holds _ _ (omega arith) (rw (c.text.ensures, c.empty.ensures))
