-- `with_numbers` meets its contract: what is put one after another is put at once. Assumes nothing.
use Rattle.remarks.proofs.Making.{five}
use Rattle.remarks.specs.Remarks.{numbers_text}
use Rattle.remarks.proofs.with_numbers.Goals as goal

pub returns : goal.returns
unfolding numbers_text
returns c = rw (c.number-2.ensures, c.text-2.ensures, c.number.ensures, c.text.ensures, c.at_line.ensures) (five _ _ _ _ _ _)
