-- `graha_search_length` meets its contract: the number is the measured one, and 0 where the query is refused.
use borrow.Author.Rules.{rules}
use mathlib.Core.Path.{◌≡◌, ap, ◌∙◌}
use Rattle.days.specs.Refusals.{part_or_zero}
use Rattle.search.specs.declared.Found.{Found}
use Rattle.search.proofs.Told.{measured-part}
use Rattle.host.proofs.searches.graha_search_length.Goals as goal

pub returns : goal.returns
returns c =
    let told : c.map_or.result ≡ part_or_zero (λ (f : Found). f.length) c.measured.result = search rules in
    told ∙ ap (part_or_zero (λ (f : Found). f.length)) c.measured.ensures.answer ∙ measured-part _ (λ (f : Found). f.length)
