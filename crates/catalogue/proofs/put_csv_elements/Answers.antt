-- `put_csv_elements` meets its contract: what is put one after another is put at once. Assumes nothing.
use mathlib.Core.List.{append_assoc}
use Rattle.text.proofs.Lines.{with-bytes-append}
use Rattle.catalogue.specs.Catalogue.{csv_elements}
use Rattle.catalogue.proofs.put_csv_elements.Goals as goal

pub returns : goal.returns
unfolding csv_elements
returns c = rw (c.put_csv_fields.ensures, c.put_csv_fields-yoga.ensures, c.put_csv_fields-nakshatra.ensures, c.put_csv_fields-tithi.ensures) (simp (with-bytes-append, append_assoc))
