-- `put_padded` meets its contract: the name fits a line of its own, so that all of it is put, and then blanks. Assumes
-- nothing.
use mathlib.Core.Path.{sym}
use lib.Seq.{length-take-le}
use Rattle.text.proofs.Holding.{holds-within}
use Rattle.names.proofs.Columns.{name-held, name-padded}
use Rattle.names.proofs.put_padded.Goals as goal

pub slice_bounds-bytes-end : goal.slice_bounds-bytes-end
slice_bounds-bytes-end c = holds-within (name-held _ _ _ _ c.empty.ensures c.put_name-name.ensures)

pub slice_bounds-text-end : goal.slice_bounds-text-end
slice_bounds-text-end c = sym (length-take-le _ _ (holds-within (name-held _ _ _ _ c.empty.ensures c.put_name-name.ensures)))

pub returns : goal.returns
returns c =
    rw (c.put_blanks.ensures, c.column_of.ensures, c.text.ensures)
    (name-padded _ _ _ _ (name-held _ _ _ _ c.empty.ensures c.put_name-name.ensures))
