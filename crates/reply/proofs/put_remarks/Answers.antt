-- `put_remarks` meets its contract: nothing is said of an input that is not read or is refused. Assumes nothing.
use native.Mathlib.Omega.{arith}
use Rattle.reply.proofs.Replying.{unread-said, refused-said, accepted-said}
use Rattle.reply.proofs.put_remarks.Goals as goal

pub returns-then-input-ge-TOO_LONG : goal.returns-then-input-ge-TOO_LONG
returns-then-input-ge-TOO_LONG c = let both = unread-said _ _ c.if-input-ge-TOO_LONG.true in record { value = both.0; buffer_after = both.1.0; upper_bound = both.1.1 }

pub returns-then-is_err : goal.returns-then-is_err
returns-then-is_err c = let both = refused-said _ _ _ (omega arith) c.read-read.ensures (rw c.if-is_err.true at c.is_err.ensures.negation) in record { value = both.0; buffer_after = both.1.0; upper_bound = both.1.1 }

pub returns : goal.returns
returns c =
    let put = c.of_page.ensures in
    let both = accepted-said _ _ _ (omega arith) c.read-read.ensures (rw c.if-is_err.false at c.is_err.ensures.negation) _ c.after.ensures _ _ (put.value, (put.buffer_after, put.upper_bound)) in
    record { value = both.0; buffer_after = both.1.0; upper_bound = both.1.1 }
