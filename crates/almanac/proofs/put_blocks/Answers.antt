-- `put_blocks` meets its contract: the blocks so far, and behind them what was there.
use native.Mathlib.Omega.{arith}
use Rattle.almanac.proofs.Writing.{written_start, written-lent, written-length, written-end}
use Rattle.almanac.proofs.put_blocks.Goals as goal

pub loop-index-init : goal.loop-index-init
loop-index-init c = (omega arith, written_start _ _ _)

pub slice_bounds-put_block-count : goal.slice_bounds-put_block-count
slice_bounds-put_block-count c = omega (arith, written-length _ _ _ c.requires.0 c.requires.1 c.loop-index.file c.loop-index.index (omega (arith, c.blocks_for-blocks.ensures, c.loop-index.invariant.0)) c.loop-index.invariant.1, c.requires.1, c.blocks_for-blocks.ensures, c.loop-index-test.true)

pub slice_bounds-put_block-start : goal.slice_bounds-put_block-start
slice_bounds-put_block-start c = omega (arith, written-length _ _ _ c.requires.0 c.requires.1 c.loop-index.file c.loop-index.index (omega (arith, c.blocks_for-blocks.ensures, c.loop-index.invariant.0)) c.loop-index.invariant.1, c.requires.1, c.blocks_for-blocks.ensures, c.loop-index-test.true)

pub slice_bounds-put_block-end : goal.slice_bounds-put_block-end
slice_bounds-put_block-end c = omega (arith, written-length _ _ _ c.requires.0 c.requires.1 c.loop-index.file c.loop-index.index (omega (arith, c.blocks_for-blocks.ensures, c.loop-index.invariant.0)) c.loop-index.invariant.1, c.requires.1, c.blocks_for-blocks.ensures, c.loop-index-test.true)

pub loop-index-preserved : goal.loop-index-preserved
loop-index-preserved c = (omega arith, written-lent _ _ _ c.requires.0 c.requires.1 _ _ _ (omega (arith, c.blocks_for-blocks.ensures, c.loop-index-test.true)) c.loop-index.invariant.1 c.put_block.ensures)

pub shape_of-file : goal.shape_of-file
shape_of-file c = written-length _ _ _ c.requires.0 c.requires.1 _ _ (omega (arith, c.blocks_for-blocks.ensures, c.loop-index.invariant.0)) c.loop-index.invariant.1

pub returns : goal.returns
returns c = written-end _ _ _ c.requires.0 c.requires.1 _ _ (omega (arith, c.blocks_for-blocks.ensures, c.loop-index.invariant.0)) (omega (arith, c.blocks_for-blocks.ensures, c.loop-index-test.false)) c.loop-index.invariant.1
