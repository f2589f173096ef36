-- What each turn of the loop keeps.
use Rattle.std.proofs.Common.{◌≡◌}
use Rattle.text.specs.Lines.{with_bytes}
use Rattle.names.specs.Columns.{blanks}
use Rattle.names.proofs.put_blanks.Given as goal

abbrev pub invariant-loop-at : goal.invariant-loop-at
invariant-loop-at l = with_bytes l.made (blanks l.at l.to) ≡ with_bytes l.initial.made (blanks l.from l.to)
