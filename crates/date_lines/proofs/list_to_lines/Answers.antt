-- `list_to_lines` meets its contract: by the answer of measuring. Assumes nothing.
use Rattle.std.proofs.lemmas.Result.{err_from_is_err_and}
use Rattle.date_lines.proofs.Measuring.{fitting}
use Rattle.date_lines.proofs.Putting.{not-put, put_whole}
use Rattle.date_lines.proofs.list_to_lines.Goals as goal

pub returns-in_err-length : goal.returns-in_err-length
returns-in_err-length c =
    let p = err_from_is_err_and c.from_residual.result c.from_residual.ensures.1 in
    record { value = rw (p.1, p.2) c.in_err-length.ensures; text_after = not-put _ _ _ c.in_err-length.ensures }

pub put_lines-requires : goal.put_lines-requires
put_lines-requires c = let f = fitting _ _ _ c.in_ok-length.ensures in (f.each, f.fits)

pub returns : goal.returns
returns c = record { value = c.in_ok-length.ensures; text_after = put_whole _ _ _ c.in_ok-length.ensures _ c.put_lines.ensures }
