-- What each turn of the loop keeps: the days before `day` are gone over.
use Rattle.lunar_months.proofs.Finding.{Finding}
use Rattle.lunar_months.proofs.put_starts.Given as goal

abbrev pub invariant-loop-day : goal.invariant-loop-day
invariant-loop-day l = Finding l.edition l.covered l.days l.first l.initial.list l.list l.before l.count l.latest l.day
