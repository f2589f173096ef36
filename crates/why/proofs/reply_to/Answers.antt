-- `reply_to` is safe and ends: what was put at the front of the buffer is all that is printed. Assumes nothing.
use mathlib.Core.Path.{ap, sym, ◌∙◌}
use lib.ListN.{length}
use Rattle.reply.proofs.Replying.{printed-fits, printed-front}
use borrow.Author.Rules.{rules}
use Rattle.why.proofs.reply_to.Goals as goal

pub slice_bounds-buffer-end : goal.slice_bounds-buffer-end
slice_bounds-buffer-end c = printed-fits _ _ _ _ _ c.to_input-reply.ensures (search rules)

pub slice_bounds-print_all-end : goal.slice_bounds-print_all-end
slice_bounds-print_all-end c =
    let told = c.to_input-reply.ensures in
    told.bytes ∙ ap length (sym (printed-front _ _ _ _ _ told (search rules)))

pub print_all-requires : goal.print_all-requires
print_all-requires c = printed-front _ _ _ _ _ c.to_input-reply.ensures (search rules)
