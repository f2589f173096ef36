-- `to_input` meets its contract: an input that is too long is not read, and the number of a line at fault fits. Assumes
-- nothing.
use native.Mathlib.Omega.{arith}
use Rattle.reply.proofs.Replying.{small-line, unread-reply, read-reply}
use Rattle.reply.proofs.to_input.Goals as goal

pub returns-then-input-ge-TOO_LONG : goal.returns-then-input-ge-TOO_LONG
returns-then-input-ge-TOO_LONG c =
    let put = rw (c.refusal_line-refused.ensures.whole, c.number.ensures) at c.put_front-printed.ensures in
    unread-reply _ _ _ _ _ c.if-input-ge-TOO_LONG.true (put.value, (put.buffer_after, put.upper_bound)) c.unreadable_page-said.ensures

pub to_question-requires : goal.to_question-requires
to_question-requires c = small-line _ (omega arith) _ c.read.ensures

pub returns : goal.returns
returns c = read-reply _ _ (omega arith) c.read.ensures c.to_question.ensures
