-- What each turn of the loop keeps.
use Rattle.date_lines.specs.declared.Kind.TheVariants.{Days}
use Rattle.date_lines.proofs.Measuring.{Measured}
use Rattle.date_lines.proofs.numbers_length.Given as goal

abbrev pub invariant-loop-index : goal.invariant-loop-index
invariant-loop-index l = Measured Days l.list l.length l.index
