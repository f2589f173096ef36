-- What each turn of the loop keeps.
use Rattle.words.proofs.Letters.{Comparing}
use Rattle.words.proofs.is_name.Given as goal

abbrev pub invariant-loop-i : goal.invariant-loop-i
invariant-loop-i l = Comparing l.name l.word l.before l.i
