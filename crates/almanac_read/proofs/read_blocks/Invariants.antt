-- What each turn of the loop keeps.
use Rattle.std.proofs.Common.{◌≡◌, length}
use Rattle.almanac_read.proofs.read_blocks.Given as goal

abbrev pub invariant-loop-seen : goal.invariant-loop-seen
invariant-loop-seen l = length l.buffer ≡ 512
