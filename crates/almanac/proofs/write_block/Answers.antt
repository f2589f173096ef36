-- `write_block` meets its contract: refused, or the block put.
use mathlib.Core.Path.{◌∙◌}
use native.Mathlib.Omega.{arith}
use Prim.Native.Nat.{◌<◌}
use Rattle.std.proofs.lemmas.Result.{err_from_is_err_and}
use Rattle.almanac.specs.Files.{blocks_for, span_days}
use Rattle.days.proofs.Laws.{checked}
use Rattle.almanac.proofs.Writing.{after_is}
use Rattle.almanac.proofs.Answers.{block_refused, block-behind, block-short, block-done}
use Rattle.almanac.proofs.write_block.Goals as goal

pub returns-in_err-check_span : goal.returns-in_err-check_span
returns-in_err-check_span c =
    let p = err_from_is_err_and c.from_residual.result c.from_residual.ensures.1 in
    let both = block_refused _ _ _ _ c.in_err-check_span.ensures in
    record { value = rw (p.1, p.2) both.0; block_after = both.1 }

pub overflow_sub-count : goal.overflow_sub-count
overflow_sub-count c = let s = checked _ _ c.in_ok-check_span.ensures in omega (arith, s.ordered, s.ends)

pub overflow_add-count : goal.overflow_add-count
overflow_add-count c = let s = checked _ _ c.in_ok-check_span.ensures in omega (arith, s.ordered, s.ends)

pub returns-then-blocks_for-index : goal.returns-then-blocks_for-index
returns-then-blocks_for-index c = let both = block-behind _ _ _ _ c.in_ok-check_span.ensures (omega (arith, c.blocks_for.ensures)) in record { value = both.0; block_after = both.1 }

pub returns-then-block-lt-BLOCK_BYTES : goal.returns-then-block-lt-BLOCK_BYTES
returns-then-block-lt-BLOCK_BYTES c = let both = block-short _ _ _ _ c.in_ok-check_span.ensures (omega (arith, c.blocks_for.ensures)) c.if-block-lt-BLOCK_BYTES.true in record { value = both.0; block_after = both.1 }

pub returns : goal.returns
returns c =
    let first = c.args.first in
    let last = c.args.last in
    let index = c.args.index in
    let before = c.args.block.now in
    let s = checked _ _ c.in_ok-check_span.ensures in
    let here : index < blocks_for (span_days first last) = omega (arith, c.blocks_for.ensures, c.if-blocks_for-index.false) in
    let both = block-done first last index before c.in_ok-check_span.ensures _ here c.if-block-lt-BLOCK_BYTES.false
    (c.put_block.ensures ∙ after_is first (span_days first last) index before (omega (arith, s.ordered, s.ends)) here c.if-block-lt-BLOCK_BYTES.false) in record { value = both.0; block_after = both.1 }
