-- `at_line` meets its contract: what is put one after another is put at once. Assumes nothing.
use Rattle.remarks.proofs.Making.{three}
use Rattle.remarks.specs.Remarks.{line_text}
use Rattle.remarks.proofs.at_line.Goals as goal

pub returns : goal.returns
unfolding line_text
returns c = rw (c.text-2.ensures, c.wide_number.ensures, c.text.ensures, c.empty.ensures) (three _ _ _ _)
