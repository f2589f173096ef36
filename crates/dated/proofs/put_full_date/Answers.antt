-- `put_full_date` meets its contract: what is put one after another is put at once. Assumes nothing.
use Rattle.dated.proofs.Laws.{full-date-made}
use Rattle.dated.proofs.put_full_date.Goals as goal

pub returns : goal.returns
returns c =
    rw (c.put_two_digits.ensures, c.byte-2.ensures, c.put_two_digits-month.ensures, c.byte.ensures, c.put_two_digits-year.ensures, c.put_two_digits-century.ensures)
    (full-date-made _ _)
