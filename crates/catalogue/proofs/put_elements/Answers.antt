-- `put_elements` meets its contract: what is put one after another is put at once. Assumes nothing.
use mathlib.Core.List.{append_assoc, append-nil}
use Rattle.text.proofs.Lines.{with-byte-is, with-bytes-append}
use Rattle.text.specs.Lines.{spaced}
use Rattle.catalogue.specs.Catalogue.{element_bytes}
use Rattle.catalogue.proofs.put_elements.Goals as goal

pub returns : goal.returns
unfolding element_bytes spaced
returns c = rw (c.number-4.ensures, c.byte-4.ensures, c.number-3.ensures, c.byte-3.ensures, c.number-2.ensures, c.byte-2.ensures, c.number.ensures, c.byte.ensures) (simp (with-byte-is, with-bytes-append, append_assoc, append-nil))
