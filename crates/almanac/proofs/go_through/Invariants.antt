-- What each turn of the loop keeps.
use mathlib.Core.Path.{◌≡◌}
use Rattle.std.specs.Slice.Iter.{chunks_rest, chunks_size}
use Rattle.almanac.proofs.Through.{Gone}
use Rattle.almanac.proofs.go_through.Given as goal

abbrev pub invariant-loop-piece : goal.invariant-loop-piece
invariant-loop-piece l = (chunks_size l.piece-iterator ≡ 512) × Gone l.file l.reader (chunks_rest l.piece-iterator)
