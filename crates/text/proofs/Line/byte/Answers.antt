-- `text::Line::byte` meets its contract: a byte is put as a list of one. Assumes nothing.
use mathlib.Core.Path.{sym, ◌∙◌}
use Rattle.text.proofs.Lines.{with-byte-is}
use Rattle.text.proofs.Line.byte.Goals as goal

pub returns : goal.returns
returns c = c.text.ensures ∙ sym (with-byte-is _ _)
