-- `put_named_elements` meets its contract: what is put one after another is put at once. Assumes nothing.
use mathlib.Core.List.{append_assoc}
use Rattle.text.proofs.Lines.{with-bytes-append}
use Rattle.catalogue.specs.Catalogue.{named_elements}
use Rattle.catalogue.proofs.put_named_elements.Goals as goal

pub returns : goal.returns
unfolding named_elements
returns c = rw (c.put_name.ensures, c.text-4.ensures, c.put_padded-yoga.ensures, c.text-3.ensures, c.put_padded-nakshatra.ensures, c.text-2.ensures, c.put_padded-tithi.ensures, c.text.ensures) (simp (with-bytes-append, append_assoc))
