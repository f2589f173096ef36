-- `both_arcs` meets its contract: the arcs' numbers in their places, with 1 or 0 for a truth value. Assumes nothing.
use Rattle.bridge.proofs.Truth.{as_number}
use Rattle.bridge.proofs.whys.both_arcs.Goals as goal

pub returns : goal.returns
returns c = rw (as_number c.args.asked.first.given, as_number c.args.asked.second.given)
