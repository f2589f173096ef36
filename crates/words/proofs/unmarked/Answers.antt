-- `unmarked` meets its contract: the library strips the mark where it is. Assumes nothing.
use Rattle.std.proofs.Common.{ap, ◌∙◌}
use Rattle.words.proofs.Marks.{mark-stripped}
use Rattle.words.proofs.unmarked.Goals as goal

pub returns : goal.returns
returns c = ap (λ r. r.now) c.unwrap_or.ensures ∙ mark-stripped c.args.text c.strip_prefix.result c.strip_prefix.ensures.cases
