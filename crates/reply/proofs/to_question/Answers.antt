-- `to_question` meets its contract: the reply is that of an accepted text or of a refused one. Assumes nothing.
use Rattle.reply.proofs.Replying.{accepted-reply, refused-reply}
use Rattle.reply.proofs.to_question.Goals as goal

pub returns-in-Ok : goal.returns-in-Ok
returns-in-Ok c =
    let put = c.put_line-printed.ensures in
    accepted-reply _ _ _ _ _ c.in-Ok.is (put.value, (put.buffer_after, put.upper_bound)) c.empty-said.ensures

pub returns-in-Err : goal.returns-in-Err
returns-in-Err c =
    let put = rw (c.refusal_line-refused.ensures.whole, c.number-number.ensures) at c.put_front-printed.ensures in
    refused-reply _ _ _ _ _ c.in-Err.is (put.value, (put.buffer_after, put.upper_bound)) (rw (c.number-number.ensures, c.reason_number.ensures) at c.page_fault-said.ensures)
