-- `sum_of` meets its contract: the sum over the bytes passed, which no byte at any position takes past 32 bits.
use Prim.Native.Nat.{◌+◌, ◌*◌, ◌<◌, ◌≤◌}
use mathlib.Core.Path.{◌≡◌, sym, ◌∙◌}
use native.Mathlib.Omega.{arith}
use lib.ListN.{get_or}
use lib.Seq.{length-take-le}
use Rattle.std.proofs.lemmas.List.{get_or-take}
use Rattle.blocks.proofs.Steps.{sum-none, sum-again, sum-all, product_small}
use Rattle.blocks.proofs.sum_of.Goals as goal
use Rattle.blocks.proofs.sum_of.Goals.{After-from}

within : (c : After-from) → c.loop-i.i < 508
within c = omega (arith, length-take-le 508 c.args.block.now c.requires)

byte : (c : After-from) → c.from.result ≡ get_or c.args.block.now c.loop-i.i 0
byte c = c.from.ensures ∙ get_or-take 508 c.args.block.now c.loop-i.i 0 (within c)

small : (c : After-from) → c.from.result * (c.loop-i.i + 1) ≤ 129540
small c = product_small c.from.result (c.loop-i.i + 1) (omega (arith, byte c, c.type_inv.block c.loop-i.i)) (omega (arith, within c))

pub loop-i-init : goal.loop-i-init
loop-i-init c = (omega arith, omega arith, sym (sum-none c.args.block.now))

pub overflow_mul-sum : goal.overflow_mul-sum
overflow_mul-sum c = omega (arith, small c)

pub overflow_add-sum : goal.overflow_add-sum
overflow_add-sum c = omega (arith, small c, within c)

pub loop-i-preserved : goal.loop-i-preserved
loop-i-preserved c = (omega (arith, within c), omega (arith, small c), sum-again _ _ _ _ (omega (arith, within c)) c.loop-i.invariant.2 (byte c))

pub returns : goal.returns
returns c = sum-all _ _ _ _ c.loop-i.invariant.0 (omega (arith, length-take-le 508 c.args.block.now c.requires)) c.loop-i.invariant.2
