-- `csv_line` meets its contract: what is put one after another is put at once. Assumes nothing.
use mathlib.Core.List.{append_assoc}
use Rattle.text.proofs.Lines.{with-byte-is, with-bytes-append}
use Rattle.catalogue.specs.Catalogue.{csv_line}
use Rattle.catalogue.proofs.csv_line.Goals as goal

pub returns : goal.returns
unfolding csv_line
returns c = rw (c.text.ensures, c.put_csv_elements.ensures, c.put_csv_fields-named.ensures, c.put_full_date-2.ensures, c.byte-dated.ensures, c.put_full_date.ensures, c.byte-numbered.ensures, c.number.ensures, c.empty.ensures, c.unwrap_or-iso.ensures, c.date_of.ensures, c.date_or_zeros-civil.ensures) (simp (with-byte-is, with-bytes-append, append_assoc))
