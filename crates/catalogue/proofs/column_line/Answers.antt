-- `column_line` meets its contract: what is put one after another is put at once. Assumes nothing.
use mathlib.Core.List.{append_assoc}
use Rattle.text.proofs.Lines.{with-byte-is, with-bytes-append}
use Rattle.catalogue.specs.Catalogue.{column_line}
use Rattle.catalogue.proofs.column_line.Goals as goal

pub returns : goal.returns
unfolding column_line
returns c = rw (c.byte.ensures, c.put_named_elements.ensures, c.put_padded-named.ensures, c.text-dated.ensures, c.put_full_date.ensures, c.text-numbered.ensures, c.put_aligned.ensures, c.empty.ensures, c.date_or_zeros-date.ensures) (simp (with-byte-is, with-bytes-append, append_assoc))
