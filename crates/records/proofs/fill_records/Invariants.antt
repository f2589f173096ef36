-- What each turn of the loop keeps: the records before the turn's are filled.
use Rattle.std.proofs.Common.{◌≡◌}
use Rattle.records.proofs.Answers.{filling}
use Rattle.records.proofs.Turns.{partly}
use Rattle.records.proofs.fill_records.Given as goal

abbrev pub invariant-loop-record : goal.invariant-loop-record
invariant-loop-record l = l.records ≡ partly (filling l.edition) l.initial.records l.record-index
