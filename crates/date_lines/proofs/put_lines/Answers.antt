-- `put_lines` meets its contract: what `Filled` says holds before each line. Assumes nothing.
use mathlib.Core.Path.{sym, ◌∙◌}
use Rattle.date_lines.proofs.Measuring.{entry-there}
use Rattle.date_lines.proofs.Putting.{filled_none, filled-day, filled_more, filled-end}
use Rattle.date_lines.proofs.put_lines.Goals as goal

pub unwrap-due-requires : goal.unwrap-due-requires
unwrap-due-requires c = rw (c.entry_at.ensures ∙ entry-there _ _ c.loop-index-test.true)

pub loop-index-init : goal.loop-index-init
loop-index-init c = filled_none _ _ _ c.requires.0 c.requires.1

pub put_line-at-requires : goal.put_line-at-requires
put_line-at-requires c = filled-day _ _ _ _ _ _ c.loop-index.invariant (sym c.unwrap-due.ensures ∙ c.entry_at.ensures)

pub loop-index-preserved : goal.loop-index-preserved
loop-index-preserved c = filled_more _ _ _ _ _ _ c.loop-index.invariant (sym c.unwrap-due.ensures ∙ c.entry_at.ensures) _ _ c.put_line-at.ensures.value c.put_line-at.ensures.text_after

pub shape_of-text : goal.shape_of-text
shape_of-text c = c.loop-index.invariant.same

pub returns : goal.returns
returns c = filled-end _ _ _ _ _ _ c.loop-index.invariant c.loop-index-test.false
