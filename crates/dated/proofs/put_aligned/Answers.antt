-- `put_aligned` meets its contract: the number is measured on a line of its own, and put behind blanks. Assumes
-- nothing.
use Rattle.dated.proofs.Laws.{aligned-made}
use borrow.Author.Rules.{rules}
use Rattle.dated.proofs.put_aligned.Goals as goal

pub returns : goal.returns
returns c =
    rw (c.number.ensures, c.put_blanks.ensures)
    (aligned-made _ _ _ _ _ (search rules) c.empty.ensures c.number-digits.ensures)
