-- `write` meets its contract: refused, too few bytes, or the blocks put.
use native.Mathlib.Omega.{arith}
use Rattle.std.proofs.lemmas.Result.{err_from_is_err_and}
use Rattle.almanac.proofs.Answers.{needed, write-refused, write-short, write_done}
use Rattle.almanac.proofs.write.Goals as goal

pub returns-in_err-needed : goal.returns-in_err-needed
returns-in_err-needed c =
    let p = err_from_is_err_and c.from_residual.result c.from_residual.ensures.1 in
    let both = write-refused _ _ _ c.in_err-needed.ensures in
    record { value = rw (p.1, p.2) both.0; file_after = both.1 }

pub returns-then-file-needed : goal.returns-then-file-needed
returns-then-file-needed c = let both = write-short _ _ _ c.in_ok-needed.ensures c.if-file-needed.true in record { value = both.0; file_after = both.1 }

pub overflow_sub-last : goal.overflow_sub-last
overflow_sub-last c = let s = (needed _ _ c.in_ok-needed.ensures).span in omega (arith, s.ordered, s.ends)

pub overflow_add-last : goal.overflow_add-last
overflow_add-last c = let s = (needed _ _ c.in_ok-needed.ensures).span in omega (arith, s.ordered, s.ends)

pub put_blocks-requires : goal.put_blocks-requires
put_blocks-requires c =
    let n = needed _ _ c.in_ok-needed.ensures in
    let s = n.span in (
      omega (arith, s.ordered, s.ends),
      omega (arith, n.bytes, c.if-file-needed.false),
    )

pub returns : goal.returns
returns c = let both = write_done _ _ _ c.in_ok-needed.ensures _ c.if-file-needed.false c.put_blocks.ensures in record { value = both.0; file_after = both.1 }
