-- What each turn of the loop keeps.
use Rattle.text.proofs.Reading.{Reading}
use Rattle.text.proofs.read_decimal.Given as goal

abbrev pub invariant-loop-digit : goal.invariant-loop-digit
invariant-loop-digit l = Reading l.digits l.number l.digit-index
