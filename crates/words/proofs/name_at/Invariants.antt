-- What each turn of the loop keeps.
use Rattle.std.proofs.Common.{◌-◌}
use Rattle.words.proofs.Names.{Naming}
use Rattle.words.proofs.name_at.Given as goal

abbrev pub invariant-loop : goal.invariant-loop
invariant-loop l = Naming l.names l.place (l.place - l.counter) l.rest
