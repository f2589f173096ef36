-- `put_csv_fields` meets its contract: what is put one after another is put at once. Assumes nothing.
use mathlib.Core.List.{append_assoc}
use Rattle.text.proofs.Lines.{with-byte-is, with-bytes-append}
use Rattle.catalogue.specs.Catalogue.{csv_fields}
use Rattle.catalogue.proofs.put_csv_fields.Goals as goal

pub returns : goal.returns
unfolding csv_fields
returns c = rw (c.put_quoted.ensures, c.byte-2.ensures, c.number-numbered.ensures, c.byte.ensures) (simp (with-byte-is, with-bytes-append, append_assoc))
