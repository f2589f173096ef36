-- `number_at` meets its contract: the block has the number.
use mathlib.Core.Path.{◌∙◌}
use Rattle.blocks.proofs.Steps.{entry_found}
use Rattle.blocks.proofs.number_at.Goals as goal

pub unwrap-requires : goal.unwrap-requires
unwrap-requires c = rw (c.entry_at.ensures ∙ entry_found _ _ c.requires)

pub returns : goal.returns
returns c = let there = entry_found _ _ c.requires in cc
