-- `put_line` meets its contract: by the kind, the line is put. Assumes nothing.
use mathlib.Core.Path.{sym}
use lib.Seq.{length-take-le}
use Rattle.iso.proofs.Laws.{iso-small}
use Rattle.text.proofs.Holding.{holds-within}
use Rattle.date_lines.proofs.Lines.{date-made, number-made}
use Rattle.date_lines.proofs.put_line.Goals as goal

pub date_line-requires : goal.date_line-requires
date_line-requires c = rw c.date_on.ensures (iso-small _ c.requires.0)

pub put-requires : goal.put-requires
put-requires c = rw (date-made _ _ _ c.date_on.ensures c.date_line.ensures) (rw c.in-Dates.is at c.requires.1)

pub returns-in-Dates : goal.returns-in-Dates
returns-in-Dates c =
    let made = date-made _ _ _ c.date_on.ensures c.date_line.ensures in
    record { value = rw (c.in-Dates.is, ← made) c.put.ensures.value; text_after = rw (c.in-Dates.is, ← made) c.put.ensures.text_after }

pub slice_bounds-bytes-end : goal.slice_bounds-bytes-end
slice_bounds-bytes-end c = holds-within c.number_line-line.ensures

pub slice_bounds-put-end-in-Days : goal.slice_bounds-put-end-in-Days
slice_bounds-put-end-in-Days c = sym (length-take-le _ _ (holds-within c.number_line-line.ensures))

pub put-requires-in-Days : goal.put-requires-in-Days
put-requires-in-Days c = rw (number-made _ _ c.number_line-line.ensures) (rw c.in-Days.is at c.requires.1)

pub returns-in-Days : goal.returns-in-Days
returns-in-Days c =
    let made = number-made _ _ c.number_line-line.ensures in
    record { value = rw (c.in-Days.is, ← made) c.put-in-Days.ensures.value; text_after = rw (c.in-Days.is, ← made) c.put-in-Days.ensures.text_after }
