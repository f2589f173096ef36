-- `put_quoted` meets its contract: what is put one after another is put at once. Assumes nothing.
use mathlib.Core.List.{append_assoc}
use Rattle.text.proofs.Lines.{with-byte-is, with-bytes-append}
use Rattle.names.specs.Columns.{quoted_name}
use Rattle.names.proofs.put_quoted.Goals as goal

pub returns : goal.returns
unfolding quoted_name
returns c = rw (c.byte-2.ensures, c.put_name.ensures, c.byte.ensures) (simp (with-byte-is, with-bytes-append, append_assoc))
