-- `copy` meets its contract: all bytes, or none. Assumes nothing.
use mathlib.Core.Path.{sym}
use native.Mathlib.Omega.{arith}
use borrow.Author.Tests.{lt-leb}
use lib.Seq.{take-length}
use Rattle.entries.specs.Entries.{copied_count}
use Rattle.entries.proofs.Copying.{copied-with-room}
use Rattle.entries.proofs.copy.Goals as goal

pub returns-then-to-count-clause-value : goal.returns-then-to-count-clause-value
unfolding copied_count
returns-then-to-count-clause-value c = rw (lt-leb _ _ c.if-to-count.true)

pub returns-then-to-count-clause-to_after : goal.returns-then-to-count-clause-to_after
unfolding copied_count
returns-then-to-count-clause-to_after c = rw (lt-leb _ _ c.if-to-count.true)

pub returns-clause-value : goal.returns-clause-value
returns-clause-value c = sym (copied-with-room _ _ (omega arith))

pub returns-clause-to_after : goal.returns-clause-to_after
returns-clause-to_after c =
    let all = copied-with-room c.args.from.now c.args.to.now (omega arith) in
    rw (all, take-length c.args.from.now, c.copy_from_slice.ensures.after)
