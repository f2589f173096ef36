-- `put_block` meets its contract: nothing put, or the block's numbers one after another and their sum.
use native.Mathlib.Omega.{arith}
use Rattle.blocks.proofs.Laying.{block-put}
use Rattle.blocks.proofs.Answers.{no_room, not-put, is-put, some-days, no-days, days-fit}
use Rattle.blocks.proofs.put_block.Goals as goal

pub returns-then-block-lt-BLOCK_BYTES : goal.returns-then-block-lt-BLOCK_BYTES
returns-then-block-lt-BLOCK_BYTES c = no_room _ _ _ _ c.if-block-lt-BLOCK_BYTES.true

pub returns-then-first-gt-LAST : goal.returns-then-first-gt-LAST
returns-then-first-gt-LAST c = not-put _ _ _ _ c.if-block-lt-BLOCK_BYTES.false (λ h k. omega arith)

pub returns-then-first-count : goal.returns-then-first-count
returns-then-first-count c = not-put _ _ _ _ c.if-block-lt-BLOCK_BYTES.false (λ h k. omega arith)

pub returns-then-days-eq0 : goal.returns-then-days-eq0
returns-then-days-eq0 c = not-put _ _ _ _ c.if-block-lt-BLOCK_BYTES.false (λ h k. no-days _ _ _ c.days_in-days.ensures.0 c.if-days-eq0.true k)

pub overflow_mul-index : goal.overflow_mul-index
overflow_mul-index c = omega (arith, some-days _ _ _ c.days_in-days.ensures.0 c.if-days-eq0.false)

pub overflow_add-first : goal.overflow_add-first
overflow_add-first c = omega (arith, some-days _ _ _ c.days_in-days.ensures.0 c.if-days-eq0.false)

pub put_days-requires : goal.put_days-requires
put_days-requires c = (days-fit _ _ _ _ c.days_in-days.ensures.0 (some-days _ _ _ c.days_in-days.ensures.0 c.if-days-eq0.false) (omega arith), c.days_in-days.ensures.1)

pub returns : goal.returns
returns c =
    is-put _ _ _ _ _ c.if-block-lt-BLOCK_BYTES.false (omega (arith, c.if-first-gt-LAST.false, c.if-first-count.false)) (some-days _ _ _ c.days_in-days.ensures.0 c.if-days-eq0.false)
    (block-put _ _ _ _ c.if-block-lt-BLOCK_BYTES.false _ _ _ _ _ _ _ c.days_in-days.ensures.0 c.put_entry.ensures c.put_entry-2.ensures c.put_days.ensures c.put_zeros.ensures c.sum_of-sum.ensures c.put_entry-3.ensures)
