-- What each turn of the loop keeps.
use Rattle.std.proofs.Common.{◌-◌, ◌≤◌}
use Rattle.values.proofs.Readings.{Reading}
use Rattle.values.proofs.set_of.Given as goal

abbrev pub invariant-loop-taken : goal.invariant-loop-taken
invariant-loop-taken l = (l.taken ≤ l.most) × Reading l.kind l.most l.text l.set (l.most - l.taken) l.rest
