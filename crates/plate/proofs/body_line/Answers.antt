-- `body_line` meets its contract: what is put one after another is put at once, and it fits. Assumes nothing.
use Rattle.text.proofs.Holding.{holds}
use Rattle.words.specs.Words.{pieces, is_separator, in_front}
use Rattle.plate.proofs.Fitting.{body-line-fits, body-line-made}
use Rattle.plate.proofs.body_line.Goals as goal

pub returns : goal.returns
unfolding pieces is_separator in_front
returns c =
    let pre = c.requires in
    holds _ _ (body-line-fits _ _ _ pre.1 pre.2)
    (rw (c.byte.ensures, c.numbers.ensures, c.text.ensures, c.empty.ensures)
    (body-line-made _ _ _ _ c.name_at-name.ensures))
