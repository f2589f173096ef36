-- `bridge_looked` meets its contract: a number of the search, and 0 where there is none. Assumes nothing.
use borrow.Author.Rules.{rules}
use mathlib.Core.Path.{◌≡◌, ap, ◌∙◌}
use Rattle.days.specs.Refusals.{part_or_zero}
use Rattle.search.specs.declared.Found.{Found}
use Rattle.bridge.specs.Answers.{bridge_looked}
use Rattle.bridge.proofs.Told.{told}
use Rattle.bridge.proofs.bridge_looked.Goals as goal

pub returns : goal.returns
unfolding bridge_looked
returns c =
    let number : c.map_or.result ≡ part_or_zero (λ (f : Found). f.examined) c.measured.result = search rules in
    number ∙ ap (part_or_zero (λ (f : Found). f.examined)) c.measured.ensures ∙ told _ (λ (f : Found). f.examined)
