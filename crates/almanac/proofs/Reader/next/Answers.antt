-- `Reader::next` meets its contract: broken already, no block, a block too many, or the next one.
use mathlib.Core.Path.{sym, ◌∙◌}
use native.Mathlib.Omega.{arith}
use Rattle.almanac.proofs.Through.{next-broken, no_block, no-more-due, one-due}
use Rattle.almanac.proofs.Reader.next.Goals as goal

pub returns-then-self : goal.returns-then-self
returns-then-self c = sym (next-broken _ _ c.if-self.true)

pub returns-then-piece-ne-BLOCK_BYTES : goal.returns-then-piece-ne-BLOCK_BYTES
returns-then-piece-ne-BLOCK_BYTES c = c.broken_off.ensures ∙ sym (no_block _ _ c.if-self.false c.if-piece-ne-BLOCK_BYTES.true)

pub returns-then-blocks_for-reader : goal.returns-then-blocks_for-reader
returns-then-blocks_for-reader c = c.broken_off-then-blocks_for-reader.ensures ∙ sym (no-more-due _ _ c.if-self.false c.if-piece-ne-BLOCK_BYTES.false _ _ c.opened-reader.ensures c.blocks_for.ensures c.if-blocks_for-reader.true)

pub taken-requires : goal.taken-requires
taken-requires c = omega (arith, c.blocks_for.ensures)

pub returns : goal.returns
returns c = c.taken.ensures ∙ sym (one-due _ _ c.if-self.false c.if-piece-ne-BLOCK_BYTES.false _ _ c.opened-reader.ensures c.blocks_for.ensures c.if-blocks_for-reader.false)
