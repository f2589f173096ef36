-- `measure` meets its contract: refused, or one pass over the whole span that puts nothing.
use mathlib.Core.Path.{refl}
use Rattle.std.proofs.lemmas.Result.{err_from_is_err_and}
use Rattle.query.proofs.Accepted.{checked}
use Rattle.search.proofs.Answers.{measured-refused, measured}
use Rattle.search.proofs.Passes.{scannable-first}
use Rattle.search.proofs.measure.Goals as goal

pub returns-in_err-check : goal.returns-in_err-check
returns-in_err-check c =
    let p = err_from_is_err_and c.from_residual.result c.from_residual.ensures.1 in
    rw (p.1, p.2) (measured-refused _ c.in_err-check.ensures)

pub scan-tally-requires : goal.scan-tally-requires
scan-tally-requires c = scannable-first _ _ _ (checked _ c.in_ok-check.ensures) c.first_visit-start.ensures

pub returns : goal.returns
returns c =
    let t = c.scan-tally.ensures.tallied in
    rw c.found.ensures (measured _ (checked _ c.in_ok-check.ensures) t.count (t.visits refl))
