-- `Reader::opened` meets its contract: before the first block its numbers are read.
use mathlib.Core.Path.{sym, ◌∙◌}
use native.Mathlib.Omega.{arith}
use Rattle.blocks.proofs.Steps.{entry_found}
use Rattle.almanac.proofs.Through.{opened-before}
use Rattle.almanac.proofs.Answers.{opened-now}
use Rattle.almanac.proofs.Reader.opened.Goals as goal

pub returns-then-self-ne0 : goal.returns-then-self-ne0
returns-then-self-ne0 c = sym (opened-before _ _ c.if-self-ne0.true)

pub unwrap-requires : goal.unwrap-requires
unwrap-requires c = rw (c.entry_at.ensures ∙ entry_found _ _ (omega arith))

pub unwrap-requires-2 : goal.unwrap-requires-2
unwrap-requires-2 c = rw (c.entry_at-2.ensures ∙ entry_found _ _ (omega arith))

pub returns : goal.returns
returns c = opened-now _ _ _ _ c.if-self-ne0.false c.requires (sym c.unwrap.ensures ∙ c.entry_at.ensures) (sym c.unwrap-2.ensures ∙ c.entry_at-2.ensures)
