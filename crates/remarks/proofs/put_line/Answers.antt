-- `put_line` meets its contract: the two lines are what is said of the line, and the second is put behind the first.
-- Assumes nothing.
use Rattle.remarks.proofs.Cases.{line-said, contents-length}
use Rattle.remarks.proofs.Putting.{first-room, second-room, both-put}
use Rattle.text.specs.Lines.{contents}
use Rattle.remarks.proofs.put_line.Goals as goal

pub put-next-requires : goal.put-next-requires
put-next-requires c =
    let all = line-said _ _ _ c.up_to-body.ensures c.first_word.ensures _ _ c.after_word.ensures c.of_words-remarks.ensures in
    (contents-length c.of_words-remarks.ensures.0, first-room _ (contents c.of_words-remarks.result.first) (contents c.of_words-remarks.result.second) all c.args.buffer.now c.args.at c.requires)

pub put-requires : goal.put-requires
put-requires c =
    let all = line-said _ _ _ c.up_to-body.ensures c.first_word.ensures _ _ c.after_word.ensures c.of_words-remarks.ensures in
    (contents-length c.of_words-remarks.ensures.1, second-room _ (contents c.of_words-remarks.result.first) (contents c.of_words-remarks.result.second) all c.args.buffer.now c.args.at c.requires _ _ c.put-next.ensures.value c.put-next.ensures.buffer_after)

pub returns : goal.returns
returns c =
    let all = line-said _ _ _ c.up_to-body.ensures c.first_word.ensures _ _ c.after_word.ensures c.of_words-remarks.ensures in
    let both = both-put _ (contents c.of_words-remarks.result.first) (contents c.of_words-remarks.result.second) all c.args.buffer.now c.args.at c.requires _ _ c.put-next.ensures.value c.put-next.ensures.buffer_after _ _ c.put.ensures.value c.put.ensures.buffer_after in record { value = both.0; buffer_after = both.1 }
