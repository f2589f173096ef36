-- `say_remarks` is safe and ends: what was put at the front of the buffer is all that is said of the page. Assumes
-- nothing.
use mathlib.Core.Path.{ap, sym, ◌∙◌}
use lib.ListN.{length}
use borrow.Author.Rules.{rules}
use Rattle.remarks.proofs.Putting.{said_fits, said-front}
use Rattle.find.proofs.say_remarks.Goals as goal

pub slice_bounds-buffer-end : goal.slice_bounds-buffer-end
slice_bounds-buffer-end c = let page = c.of_page-bytes.ensures in said_fits _ _ _ _ page.value page.buffer_after (search rules) page.upper_bound

pub slice_bounds-say_all-end : goal.slice_bounds-say_all-end
slice_bounds-say_all-end c = let page = c.of_page-bytes.ensures in page.value ∙ ap length (sym (said-front _ _ _ _ page.value page.buffer_after (search rules) page.upper_bound))

pub say_all-requires : goal.say_all-requires
say_all-requires c = let page = c.of_page-bytes.ensures in said-front _ _ _ _ page.value page.buffer_after (search rules) page.upper_bound
