-- What each turn of the loop keeps.
use Rattle.text.proofs.Putting.{Putting, itself}
use Rattle.text.proofs.Line.text.Given as goal

abbrev pub invariant-loop-b : goal.invariant-loop-b
invariant-loop-b l =
    Putting itself (record { bytes = l.initial.bytes; len = l.initial.len }) l.s (record { bytes = l.bytes; len = l.len }) l.b-index
