-- `numbers_length` meets its contract: what `Measured` says holds before each entry. Assumes nothing.
use mathlib.Core.Path.{sym, ◌∙◌}
use Rattle.text.proofs.Holding.{holds-length}
use Rattle.date_lines.proofs.Measuring.{entry-there, measured-none, measured-more, measured-end}
use Rattle.date_lines.proofs.numbers_length.Goals as goal

pub unwrap-due-requires : goal.unwrap-due-requires
unwrap-due-requires c = rw (c.entry_at.ensures ∙ entry-there _ _ c.loop-index-test.true)

pub loop-index-init : goal.loop-index-init
loop-index-init c = measured-none _ _

pub loop-index-preserved : goal.loop-index-preserved
loop-index-preserved c = measured-more _ _ _ _ c.loop-index.invariant _ _ (sym c.unwrap-due.ensures ∙ c.entry_at.ensures) (holds-length c.number_line-line.ensures) c.saturating_add-length.ensures

pub returns : goal.returns
returns c = measured-end _ _ _ _ c.loop-index.invariant c.loop-index-test.false
