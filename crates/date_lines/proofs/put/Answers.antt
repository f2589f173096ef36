-- `put` meets its contract: the line is copied from the byte on. Assumes nothing.
use mathlib.Core.Path.{refl, ◌∙◌}
use native.Mathlib.Omega.{arith}
use Rattle.date_lines.proofs.Putting.{made-copied, made-within, put-made}
use Rattle.date_lines.proofs.put.Goals as goal

pub overflow_add-result : goal.overflow_add-result
overflow_add-result c = omega (arith, made-within c.args.text.now c.args.line.now _ c.args.at refl c.requires c.copy.ensures.value)

pub returns : goal.returns
returns c =
    let all = made-copied c.args.text.now c.args.line.now _ c.args.at refl c.requires in
    let both = put-made c.args.text.now c.args.line.now _ _ c.args.at refl c.requires (c.copy.ensures.value ∙ all) (rw all at c.copy.ensures.to_after) in
    record { value = both.0; text_after = both.1 }
