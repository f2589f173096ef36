-- `read` meets its contract: refused, too few entries, or the days put.
use Rattle.std.proofs.lemmas.Result.{err_from_is_err_and}
use Rattle.almanac.proofs.Answers.{read-refused, read_short, fit, read_done}
use Rattle.almanac.proofs.read.Goals as goal

pub returns-in_err-reading : goal.returns-in_err-reading
returns-in_err-reading c =
    let p = err_from_is_err_and c.from_residual.result c.from_residual.ensures.1 in
    let both = read-refused _ _ c.in_err-reading.ensures in
    record { value = rw (p.1, p.2) both.0; list_after = both.1 }

pub returns-then-list-reading : goal.returns-then-list-reading
returns-then-list-reading c = let both = read_short _ _ c.in_ok-reading.ensures c.if-list-reading.true in record { value = both.0; list_after = both.1 }

pub put_days-requires : goal.put_days-requires
put_days-requires c = fit _ c.args.list.now c.in_ok-reading.ensures

pub returns : goal.returns
returns c = let both = read_done _ _ c.in_ok-reading.ensures _ c.if-list-reading.false c.put_days.ensures in record { value = both.0; list_after = both.1 }
