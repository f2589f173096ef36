-- `check_block` meets its contract, refusal by refusal.
use mathlib.Core.Path.{sym, ◌∙◌}
use Rattle.blocks.proofs.Answers.{short-block, bad-checksum, bad-index, bad-count, zeros-are, not_zeros, days-are, bad-days, good-block}
use Rattle.blocks.proofs.check_block.Goals as goal

pub returns-then-block-lt-BLOCK_BYTES : goal.returns-then-block-lt-BLOCK_BYTES
returns-then-block-lt-BLOCK_BYTES c = short-block _ _ _ _ c.if-block-lt-BLOCK_BYTES.true

pub returns-then-number_at-sum_of : goal.returns-then-number_at-sum_of
returns-then-number_at-sum_of c = bad-checksum _ _ _ _ c.if-block-lt-BLOCK_BYTES.false (λ e. c.if-number_at-sum_of.true (c.number_at.ensures ∙ e ∙ sym c.sum_of.ensures))

pub returns-then-number_at-index : goal.returns-then-number_at-index
returns-then-number_at-index c = bad-index _ _ _ _ c.if-block-lt-BLOCK_BYTES.false (sym c.number_at.ensures ∙ c.if-number_at-sum_of.false ∙ c.sum_of.ensures) (λ e. c.if-number_at-index.true (c.number_at-2.ensures ∙ e))

pub returns-then-number_at-count : goal.returns-then-number_at-count
returns-then-number_at-count c = bad-count _ _ _ _ c.if-block-lt-BLOCK_BYTES.false (sym c.number_at.ensures ∙ c.if-number_at-sum_of.false ∙ c.sum_of.ensures) (sym c.number_at-2.ensures ∙ c.if-number_at-index.false) (λ e. c.if-number_at-count.true (c.number_at-3.ensures ∙ e))

pub returns-then-not-zeros_hold : goal.returns-then-not-zeros_hold
returns-then-not-zeros_hold c = not_zeros _ _ _ _ c.if-block-lt-BLOCK_BYTES.false (sym c.number_at.ensures ∙ c.if-number_at-sum_of.false ∙ c.sum_of.ensures) (sym c.number_at-2.ensures ∙ c.if-number_at-index.false) (sym c.number_at-3.ensures ∙ c.if-number_at-count.false) (zeros-are _ _ _ _ _ _ c.days_in-days.ensures.0 c.zeros_hold.ensures c.if-not-zeros_hold.true)

pub returns-then-not-days_hold : goal.returns-then-not-days_hold
returns-then-not-days_hold c = bad-days _ _ _ _ c.if-block-lt-BLOCK_BYTES.false (sym c.number_at.ensures ∙ c.if-number_at-sum_of.false ∙ c.sum_of.ensures) (sym c.number_at-2.ensures ∙ c.if-number_at-index.false) (sym c.number_at-3.ensures ∙ c.if-number_at-count.false) (zeros-are _ _ _ _ _ _ c.days_in-days.ensures.0 c.zeros_hold.ensures c.if-not-zeros_hold.false) (days-are _ _ _ _ _ _ _ c.days_in-days.ensures.0 c.days_hold.ensures c.if-not-days_hold.true)

pub returns : goal.returns
returns c = good-block _ _ _ _ c.if-block-lt-BLOCK_BYTES.false (sym c.number_at.ensures ∙ c.if-number_at-sum_of.false ∙ c.sum_of.ensures) (sym c.number_at-2.ensures ∙ c.if-number_at-index.false) (sym c.number_at-3.ensures ∙ c.if-number_at-count.false) (zeros-are _ _ _ _ _ _ c.days_in-days.ensures.0 c.zeros_hold.ensures c.if-not-zeros_hold.false) (days-are _ _ _ _ _ _ _ c.days_in-days.ensures.0 c.days_hold.ensures c.if-not-days_hold.false)
