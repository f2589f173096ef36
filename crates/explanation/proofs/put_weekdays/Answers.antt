-- `put_weekdays` meets its contract: what is put one after another is put at once. Assumes nothing.
use Rattle.words.specs.Words.{pieces, is_separator, in_front}
use Rattle.explanation.proofs.Making.{weekdays-made}
use Rattle.explanation.proofs.put_weekdays.Goals as goal

pub returns : goal.returns
unfolding pieces is_separator in_front
returns c =
    rw (c.text-3.ensures, c.text-2.ensures, c.put_names.ensures, c.text.ensures)
    (weekdays-made _ _ _ c.name_at-name.ensures)
