-- `put_numbers` meets its contract: what is put one after another is put at once. Assumes nothing.
use Rattle.explanation.proofs.Making.{numbers-made}
use Rattle.explanation.proofs.put_numbers.Goals as goal

pub returns : goal.returns
returns c = rw (c.number.ensures, c.text-3.ensures, c.put_set.ensures, c.text-2.ensures, c.text.ensures) (numbers-made _ _ _ _)
