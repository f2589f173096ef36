-- What each turn of the loop keeps.
use Rattle.std.specs.Iterator.Adapters.{take_source, take_count}
use Rattle.std.specs.Slice.Iter.{split_inclusive_rest}
use Rattle.date_lines.proofs.Reading.{Passed, Put, Left}
use Rattle.date_lines.proofs.read_lines.Given as goal

abbrev pub invariant-loop-line : goal.invariant-loop-line
invariant-loop-line l =
    let rest = split_inclusive_rest (take_source l.line-iterator) in
    Passed l.kind l.most l.text rest l.lines
    × Put l.kind l.text l.initial.kept l.kept rest l.lines
    × Left l.most (take_count l.line-iterator) l.text rest l.lines l.seen
