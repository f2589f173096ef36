-- `all_days` meets its contract: the entries passed are days. Assumes nothing.
use mathlib.Core.Path.{refl, sym, ◌∙◌}
use native.Mathlib.Omega.{arith}
use Rattle.date_lines.proofs.Measuring.{entry-there, checked-bad, checked-more, checked-end}
use Rattle.date_lines.proofs.all_days.Goals as goal

pub unwrap-due-requires : goal.unwrap-due-requires
unwrap-due-requires c = rw (c.entry_at.ensures ∙ entry-there _ _ c.loop-index-test.true)

pub loop-index-init : goal.loop-index-init
loop-index-init c = record { few = omega arith; days = refl }

pub returns-then-due-gt-LAST : goal.returns-then-due-gt-LAST
returns-then-due-gt-LAST c = checked-bad _ _ c.loop-index.invariant (sym c.unwrap-due.ensures ∙ c.entry_at.ensures) c.if-due-gt-LAST.true

pub loop-index-preserved : goal.loop-index-preserved
loop-index-preserved c = checked-more _ _ c.loop-index.invariant (sym c.unwrap-due.ensures ∙ c.entry_at.ensures) c.if-due-gt-LAST.false

pub returns : goal.returns
returns c = checked-end _ _ c.loop-index.invariant c.loop-index-test.false
