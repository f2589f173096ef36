-- `counts_line` meets its contract: what is put one after another is put at once. Assumes nothing.
use mathlib.Core.List.{append_assoc}
use Rattle.text.proofs.Lines.{with-byte-is, with-bytes-append}
use Rattle.catalogue.specs.Catalogue.{counts_line}
use Rattle.catalogue.proofs.counts_line.Goals as goal

pub returns : goal.returns
unfolding counts_line
returns c = rw (c.byte.ensures, c.with_edition.ensures, c.number-counts.ensures, c.text-2.ensures, c.number.ensures, c.text.ensures, c.empty.ensures) (simp (with-byte-is, with-bytes-append, append_assoc))
