-- `name_at` meets its contract: `Naming` holds before each name. Assumes nothing.
use Rattle.std.proofs.Common.{◌≡◌, ◌∙◌, ◌+◌, ◌-◌, arith}
use Rattle.words.proofs.Names.{naming-next, naming-end}
use Rattle.words.proofs.name_at.Goals as goal

pub loop-preserved : goal.loop-preserved
loop-preserved c =
    let less : c.args.place - (c.loop.counter + 1) ≡ c.args.place - c.loop.counter - 1 = omega arith in
    rw (less, c.after-rest.ensures) (naming-next _ _ _ _ c.loop.invariant (omega arith))

pub returns : goal.returns
returns c = c.up_to.ensures ∙ naming-end _ _ _ _ c.loop.invariant (omega arith)
