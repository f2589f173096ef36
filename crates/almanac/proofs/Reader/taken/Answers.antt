-- `Reader::taken` meets its contract: the block is checked where none was bad before.
use mathlib.Core.Path.{sym, ◌∙◌}
use Rattle.almanac.proofs.Answers.{taken-checked, taken-passed}
use Rattle.almanac.proofs.Reader.taken.Goals as goal

pub returns-then-is_ok : goal.returns-then-is_ok
returns-then-is_ok c = taken-checked _ _ _ (sym c.is_ok.ensures.value ∙ c.if-is_ok.true) c.check_block-reader.ensures

pub returns-else-is_ok : goal.returns-else-is_ok
returns-else-is_ok c = taken-passed _ _ (sym c.is_ok.ensures.value ∙ c.if-is_ok.false)
