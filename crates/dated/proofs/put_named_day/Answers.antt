-- `put_named_day` meets its contract: what is found of the day is put at once. Assumes nothing.
use mathlib.Core.Path.{◌∙◌}
use Rattle.words.specs.Words.{pieces, is_separator, in_front}
use Rattle.dated.proofs.Laws.{named-made}
use Rattle.dated.proofs.put_named_day.Goals as goal

pub returns : goal.returns
unfolding pieces is_separator in_front
returns c =
    rw (c.text.ensures, c.byte.ensures, c.put_day.ensures)
    (named-made _ _ _ _ (c.unwrap_or-weekday.ensures ∙ rw (c.weekday.ensures, c.at.ensures)) c.name_at-name.ensures)
